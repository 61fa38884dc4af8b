-- Each event leaves a world's vectors in normal form.
use Rattle.std.proofs.Common.{◌≡◌, refl, sym, ap, subst, ◌∙◌, ℕ, ◌+◌, Bool, true, false, not, List, [], ◌∷◌, map, filter, inl, inr, IsFalse, if◌then◌else◌, Option, Some, None, arith}
use Rattle.mr_world.proofs.Names.Wire.{Body, Full, Item, Mode, MoveOut, Partial, Piece, Sent}
use Rattle.mr_world.proofs.Names.Replica.{Changes, Event as ReplicaEvent, Gave, Keeps, Kind, Reply, State, arrived, change_made, entered_if, entering}
use Rattle.mr_world.proofs.Names.Replica.{is_selected, is_unheld, line_of, mode_for, revision_for, step_changes, vouched}
use Rattle.mr_world.proofs.Names.Sessions.{AreCut, Stream, is_due, is_end, is_item, told}
use Rattle.mr_world.proofs.Names.Model.{Event, In}
use Rattle.mr_world.proofs.Names.Laws.{choice, in_filter}
use Rattle.mr_world.proofs.Names.Mails.{AuthorColumn, Form, Mail, Name, Rev, entered, has_below, left_by, supersedes, vector_has, version_of}
use Rattle.mr_world.proofs.Names.World.{Answer, AreNormalRevisions, IsNormal, IsNormalBody, IsNormalReplica, IsNormalStream, IsNormalWorld, World}
use Rattle.mr_replica.specs.declared.event.Event.TheVariants as replica
use Rattle.mr_replica.proofs.FiveKinds.{Kind.Ending, Kind.Issuing, Kind.Learning, Kind.Releasing, Kind.Staying}
use Rattle.mr_wire.specs.declared.frame.Frame.TheVariants as frame
use Rattle.mr_world.proofs.Moving.ByParts.{MovesAt}
use Rattle.mr_world.proofs.Drawing.Drawn.{Drawn, Drawn.Ends_fully, Drawn.Ends_partly, Drawn.Shows_first, Drawn.Shows_more, Drawn.Starts, Drawn.Tells, Drawn.Walks}
use Rattle.mr_world.proofs.Drawing.Due.{lower_found}
use Rattle.mr_world.proofs.Groundwork.Orders.{in_entered}
use Rattle.mr_world.proofs.Moving.ByReplica.{Hold, keeps, mover}
use Rattle.mr_world.proofs.Keeping.PiecesListMore.{piece_part}
use Rattle.mr_world.proofs.Keeping.Turns.{gives, turns}

-- ---- revisions

some_normal : (p : Rev → Bool) (rs : List Rev) → AreNormalRevisions rs → AreNormalRevisions (filter p rs)
some_normal p rs normal x i = normal x (in_filter p rs x i).0

entered_normal : (r : Rev) (rs : List Rev) → IsNormal r.below → AreNormalRevisions rs → AreNormalRevisions (entered r rs)
entered_normal r rs one normal x i = elim (in_entered r rs x i) [ inl e ↦ subst (λ (z : Rev). IsNormal z.below) e one | inr j ↦ normal x j ]

entered_if_normal : (b : Bool) (r : Rev) (rs : List Rev) → IsNormal r.below → AreNormalRevisions rs → AreNormalRevisions (entered_if b r rs)
entered_if_normal b r rs one normal = grind (arith, entered_normal)

arrived_normal : (comer : Option Rev) (rs : List Rev) → ((r : Rev) → comer ≡ Some r → IsNormal r.below) → AreNormalRevisions rs → AreNormalRevisions (arrived comer rs)
arrived_normal None rs one normal = normal
arrived_normal (Some r) rs one normal = entered_normal r rs (one r refl) normal

-- ---- the vectors of streams

cut_normal : (versions : List Name) (vs : List (List AuthorColumn)) → AreCut versions vs → (v : List AuthorColumn) → In v vs → IsNormal v
cut_normal versions [] cut v i = elim i [ ]
cut_normal versions (x ∷ []) cut v i = elim i [ inl e ↦ subst IsNormal e cut.vector_of.columns_ok | inr none ↦ absurd none ]
cut_normal versions (x ∷ y ∷ vs) cut v i = elim i [ inl e ↦ subst IsNormal e cut.4.vector_of.columns_ok | inr j ↦ cut_normal (cut.1 ∷ cut.2) (y ∷ vs) cut.6 v j ]

kept_normal : {K : Type 0} (form : Form K) (mode : Mode) (knowledge : K) (know : List Piece) → Keeps form mode knowledge know → (piece : Piece) → In piece know → IsNormal piece.vector
kept_normal form Full knowledge know keeps piece i = (piece_part (form.is_part knowledge) keeps.0.parts know keeps.0.by_part keeps.0.are_parts.are piece i).2.versions.columns_ok
kept_normal form Partial knowledge know keeps piece i = elim (subst (λ (ps : List Piece). In piece ps) keeps i) [ ]

-- ---- one step

-- what goes in
abbrev IsNormalEvent : ReplicaEvent → Type 0
IsNormalEvent there = (sent : Sent) → there ≡ replica.Receive (frame.Record sent) → IsNormalBody sent.body

module _ {K : Type 0} where
  -- what is held
  abbrev IsNormalHolding : State K → Type 0
  IsNormalHolding s = AreNormalRevisions s.heads × AreNormalRevisions s.push_outs

-- the index of the next record makes no difference
next_normal : (k : Stream) (next : ℕ) → IsNormalStream k → IsNormalStream (record k { next = next })
next_normal k next h = record { held = h.held; know = h.know }

module _ {K : Type 0} (form : Form K) (s : State K) (normal : IsNormalReplica s) where
  -- ---- what is held

  comer_normal : (b : Body) → IsNormalBody b → (x : Rev) → entering s b ≡ Some x → IsNormal x.below
  comer_normal (Item r) below x e = go (is_selected s r) e
    where
      go : (b : Bool) → (if b then Some r else None) ≡ Some x → IsNormal x.below
      go true e = let same : r ≡ x = cc in subst (λ (z : Rev). IsNormal z.below) same below
      go false e = absurd (cc)
  comer_normal b below x e = grind (arith, is_selected)

  kind_normal : (there : ReplicaEvent) (to : State K) → IsNormalEvent there → Kind form s there to → IsNormalHolding to
  kind_normal there to in_form (Issuing i columns are known is) =
      let r = revision_for s i columns in
      let below : IsNormal r.below = are.vector in
      subst IsNormalHolding (sym is) (
        entered_if_normal (is_selected s r) r (left_by r.item (has_below r) s.heads) below (some_normal (λ x. not (supersedes r.item (has_below r) x)) s.heads normal.heads),
        entered_if_normal (not (is_selected s r)) r (left_by r.item (has_below r) s.push_outs) below (some_normal (λ x. not (supersedes r.item (has_below r) x)) s.push_outs normal.push_outs),
      )
  kind_normal there to in_form (Learning sent e line tells known is) =
      let stays = λ (x : Rev). not (supersedes line.item (vector_has line.below) x) in
      subst IsNormalHolding (sym is) (
        arrived_normal (entering s sent.body) (left_by line.item (vector_has line.below) s.heads) (comer_normal sent.body (in_form sent e)) (some_normal stays s.heads normal.heads),
        some_normal stays s.push_outs normal.push_outs,
      )
  kind_normal there to in_form (Ending sent session found known is) = subst IsNormalHolding (sym is) (some_normal (λ x. not (is_unheld session x)) s.heads normal.heads, normal.push_outs)
  kind_normal there to in_form (Releasing receipt is) =
      subst IsNormalHolding (sym is) (normal.heads, some_normal (λ x. not (supersedes receipt.descent.item (vouched receipt.descent) x)) s.push_outs normal.push_outs)
  kind_normal there to in_form (Staying retired is) = subst IsNormalHolding (sym is) (normal.heads, normal.push_outs)

  -- ---- a draw

  told_normal : (k : Stream) (x : Rev) → IsNormal x.below → IsNormalBody (told k.asked x)
  told_normal k x below = choice IsNormalBody (is_item k.asked x) (Item x) (MoveOut (line_of x)) (λ h. below) (λ h. below)

  draw_normal : (k : Stream) (b : Body) (left : Stream) → IsNormalStream k → Drawn s k b left → IsNormalBody b × (IsFalse (is_end b) → IsNormalStream left)
  draw_normal k b left stream (Starts n eb e) = (subst IsNormalBody (sym eb) tt, λ goes_on. subst IsNormalStream (sym e) stream)
  draw_normal k b left stream (Walks n h x found eb e) = (
    subst IsNormalBody (sym eb) (told_normal k x (elim (lower_found (is_due k.asked k.past) s.heads s.push_outs x found) [ inl i ↦ normal.heads x i.0 | inr i ↦ normal.push_outs x i.0 ])),
    λ goes_on. subst IsNormalStream (sym e) (record { held = stream.held; know = stream.know }),
  )
  draw_normal k b left stream (Shows_first n h none full v vs cut eb e) =
      let each = cut_normal (map version_of s.heads) (v ∷ vs) cut in (
        subst IsNormalBody (sym eb) (each v (inl refl)),
        λ goes_on. subst IsNormalStream (sym e) (record { held = λ vectors is u i. (let whole : Some vs ≡ Some vectors = is in let same : vs ≡ vectors = cc in each u (inr (subst (λ (l : List (List AuthorColumn)). In u l) (sym same) i))); know = stream.know }),
      )
  draw_normal k b left stream (Ends_partly n h none part eb) = (subst IsNormalBody (sym eb) tt, λ goes_on. (let c : true ≡ false = sym (ap is_end eb) ∙ goes_on in absurd (cc)))
  draw_normal k b left stream (Shows_more n v vs h eb e) = (
    subst IsNormalBody (sym eb) (stream.held (v ∷ vs) h v (inl refl)),
    λ goes_on. subst IsNormalStream (sym e) (record { held = λ vectors is u i. (let whole : Some vs ≡ Some vectors = is in let same : vs ≡ vectors = cc in stream.held (v ∷ vs) h u (inr (subst (λ (l : List (List AuthorColumn)). In u l) (sym same) i))); know = stream.know }),
  )
  draw_normal k b left stream (Tells n h f fs known eb e) = (
    subst IsNormalBody (sym eb) (stream.know f (subst (λ (l : List Piece). In f l) (sym known) (inl refl))),
    λ goes_on. subst IsNormalStream (sym e) (record { held = stream.held; know = λ piece i. stream.know piece (subst (λ (l : List Piece). In piece l) (sym known) (inr i)) }),
  )
  draw_normal k b left stream (Ends_fully n h none eb) = (subst IsNormalBody (sym eb) tt, λ goes_on. (let c : true ≡ false = sym (ap is_end eb) ∙ goes_on in absurd (cc)))

  draws : (k : Stream) (b : Body) (left : Stream) → IsNormalStream k → Drawn s k b left → IsNormalBody b × (IsFalse (is_end b) → IsNormalStream (record left { next = k.next + 1 }))
  draws k b left stream d = let h = draw_normal k b left stream d in (h.0, λ goes_on. next_normal left (k.next + 1) (h.1 goes_on))

  -- ---- any event

  pub step_normal : (there : ReplicaEvent) (told : Reply) (new : State K) → IsNormalEvent there → Changes form s there told new → IsNormalReplica new × ((sent : Sent) → told ≡ Gave sent → IsNormalBody sent.body)
  step_normal there told new in_form step =
      let made = change_made form s there told new step in
      let held : IsNormalHolding new = subst IsNormalHolding (sym made.is) (kind_normal there made.to in_form made.kind) in (
        record {
          heads = held.0;
          push_outs = held.1;
          streams = turns form s IsNormalStream IsNormalBody normal.streams draws
              (λ ask know keeps. record { held = λ vectors none. absurd (cc); know = kept_normal form (mode_for s ask) s.knowledge know keeps }) new.streams made.streams;
        },
        λ sent e. (let h = made.gives sent e in (gives form s IsNormalStream IsNormalBody normal.streams draws h.0 sent new.streams h.1).0),
      )

-- no event of a world takes a vector out of its form
pub moves_normal : {K : Type 0} (form : Form K) (w : World K) → IsNormalWorld w → (e : Event Mail) (given : Answer) (w' : World K) → MovesAt form w e given w' → IsNormalWorld w'
moves_normal {K} form w normal e given w' move =
    let old : Hold form w (λ (r : ℕ) (s : State K). IsNormalReplica s) IsNormalBody w = record { replicas = normal.replicas; records = normal.records } in
    let new = keeps form w (λ (r : ℕ) (s : State K). IsNormalReplica s) IsNormalBody given w' old
    (λ r there told new pool same step. step_normal form (w.replicas r) (normal.replicas r) there told new (λ sent e. normal.records sent (pool sent e)) (step_changes form (w.replicas r) there told new step))
    (mover form w e given w' move) in
    record { replicas = new.replicas; records = new.records }
