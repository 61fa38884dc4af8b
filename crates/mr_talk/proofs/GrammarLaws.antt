-- The states of a talk accept just the talks.
use Rattle.std.proofs.Common.{◌≡◌, ℕ, zero, suc, Bool, true, false, cond, ◌&&◌, List, [], ◌∷◌, ◌++◌, Option, Some, None, ◌⊎◌, inl, inr, refl, sym, ap, subst, ◌∙◌, append_assoc}
use Rattle.mr_talk.proofs.Names.{Ask, Begin, CalledAsks, CalledCloses, CalledGreets, CalledPasses, CalledSettles, CalledSettlesFile, CalledTells}
use Rattle.mr_talk.proofs.Names.{CalledTellsFile, CallerAsks, CallerCloses, CallerGreets, CallerSettles, CallerSettlesFile, CallerTells, CallerTellsFile}
use Rattle.mr_talk.proofs.Names.{CallerWants, Done, End, Failed, Fault, Hello, Idle, IsTrue, Kind, Leads, Missing, Over, Piece, PushOuts, Receipts, Records}
use Rattle.mr_talk.proofs.Names.{Turn, Wants, Whole, and_parts, flat_map, flat_map-cons, next_of, replicate}
use Rattle.mr_talk.specs.declared.kind.Kind.TheVariants.{Turn as Passes}
use Rattle.mr_talk.proofs.Tables.{each_kind, kind_at, is_kind, kind_from, is_turn, turn_from, turn_not, each_placed, placed_at}
use Rattle.mr_talk.specs.Grammar.{Part, One, File, part_kinds, is_in, May, AllMay, IsSaid, IsTold, IsLate, IsClose, IsOpen, IsHalfDone, IsLong, IsWholeTalk}

-- ---- what is said in a turn leaves the state as it is

-- a state in which some messages are said, and the state within a file
pub record Stage (S F : Turn) (singles : List Kind) (files : Bool) : Type 0 where
  pub stays : (k : Kind) → IsTrue (is_in singles k) → next_of S k ≡ Some S
  pub begins : IsTrue files → next_of S Begin ≡ Some F
  pub goes_on : IsTrue files → next_of F Piece ≡ Some F
  pub ends : IsTrue files → next_of F End ≡ Some S

module _ {S F : Turn} {singles : List Kind} {files : Bool} (stage : Stage S F singles files) where
  within : IsTrue files → (n : ℕ) (rest : List Kind) (end : Turn) → Leads S rest end → Leads F (replicate n Piece ++ (End ∷ rest)) end
  within may zero rest end r = (S, stage.ends may, r)
  within may (suc n) rest end r = (F, stage.goes_on may, within may n rest end r)

  part_stays : (p : Part) → May singles files p → (rest : List Kind) (end : Turn) → Leads S rest end → Leads S (part_kinds p ++ rest) end
  part_stays (One k) m rest end r = (S, stage.stays k m, r)
  part_stays (File n) m rest end r = (F, stage.begins m, subst (λ (x : List Kind). Leads F x end) (sym (append_assoc (replicate n Piece) (End ∷ []) rest)) (within m n rest end r))

  parts_stay : (ps : List Part) → AllMay singles files ps → (rest : List Kind) (end : Turn) → Leads S rest end → Leads S (flat_map part_kinds ps ++ rest) end
  parts_stay [] a rest end r = r
  parts_stay (p ∷ ps) a rest end r =
      let regrouped : flat_map part_kinds (p ∷ ps) ++ rest ≡ part_kinds p ++ (flat_map part_kinds ps ++ rest) =
      ap (λ (x : List Kind). x ++ rest) (flat_map-cons part_kinds p ps) ∙ append_assoc (part_kinds p) (flat_map part_kinds ps) rest in
      subst (λ (x : List Kind). Leads S x end) (sym regrouped) (part_stays p a.0 (flat_map part_kinds ps ++ rest) end (parts_stay ps a.1 rest end r))

  said_stays : (kinds rest : List Kind) (end : Turn) → IsSaid singles files kinds → Leads S rest end → Leads S (kinds ++ rest) end
  said_stays kinds rest end s r = subst (λ (x : List Kind). Leads S (x ++ rest) end) (sym s.whole) (parts_stay s.parts s.each rest end r)

-- ---- what leaves the state ends what is said

-- what a message does there that has a place
abbrev Sort : (S F : Turn) → List Kind → Bool → (Kind → Bool) → Kind → Turn → Type 0
Sort S F singles files leaving k t = (IsTrue (is_in singles k) × (t ≡ S)) ⊎ (((k ≡ Begin) × IsTrue files × (t ≡ F)) ⊎ IsTrue (leaving k))

abbrev SortWithin : (S F : Turn) → Kind → Turn → Type 0
SortWithin S F k t = ((k ≡ Piece) × (t ≡ F)) ⊎ (((k ≡ End) × (t ≡ S)) ⊎ (t ≡ Failed))

record Sorts (S F : Turn) (singles : List Kind) (files : Bool) (leaving : Kind → Bool) : Type 0 where
  pub sort : (k : Kind) (t : Turn) → next_of S k ≡ Some t → Sort S F singles files leaving k t
  pub within : (k : Kind) (t : Turn) → next_of F k ≡ Some t → SortWithin S F k t
  pub opens : S ≡ Over → ⊥
  pub opens_within : F ≡ Over → ⊥

-- a run to the end, by the message that leaves the state
record Leaves (S : Turn) (singles : List Kind) (files : Bool) (leaving : Kind → Bool) (kinds : List Kind) : Type 0 where
  pub said : List Kind
  pub is_said : IsSaid singles files said
  pub kind : Kind
  pub leaves : IsTrue (leaving kind)
  pub next : Turn
  pub is_next : next_of S kind ≡ Some next
  pub rest : List Kind
  pub runs : Leads next rest Over
  pub whole : kinds ≡ said ++ kind ∷ rest

record LeavesFile (S : Turn) (singles : List Kind) (files : Bool) (leaving : Kind → Bool) (kinds : List Kind) : Type 0 where
  pub pieces : ℕ
  pub behind : List Kind
  pub whole : kinds ≡ replicate pieces Piece ++ (End ∷ behind)
  pub later : Leaves S singles files leaving behind

failed_stays : (ks : List Kind) → Leads Failed ks Over → ⊥
failed_stays [] r = cc
failed_stays (k ∷ ks) r = let e : ◌≡◌ {A = Option Turn} None (Some r.0) = r.1 in cc

module _ {S F : Turn} {singles : List Kind} {files : Bool} {leaving : Kind → Bool} (sorts : Sorts S F singles files leaving) where
  one_more : (k : Kind) (ks : List Kind) → IsTrue (is_in singles k) → Leaves S singles files leaving ks → Leaves S singles files leaving (k ∷ ks)
  one_more k ks m l = record {
    said = k ∷ l.said;
    is_said = record { parts = One k ∷ l.is_said.parts; each = (m, l.is_said.each); whole = ap (λ (x : List Kind). k ∷ x) l.is_said.whole ∙ sym (flat_map-cons part_kinds (One k) l.is_said.parts) };
    kind = l.kind;
    leaves = l.leaves;
    next = l.next;
    is_next = l.is_next;
    rest = l.rest;
    runs = l.runs;
    whole = ap (λ (x : List Kind). k ∷ x) l.whole;
  }

  file_more : (ks : List Kind) → IsTrue files → LeavesFile S singles files leaving ks → Leaves S singles files leaving (Begin ∷ ks)
  file_more ks may f =
      let l = f.later in
      let file : List Kind = part_kinds (File f.pieces) in
      let whole : Begin ∷ ks ≡ (file ++ l.said) ++ l.kind ∷ l.rest =
      ap (λ (x : List Kind). Begin ∷ x) (f.whole ∙ ap (λ (x : List Kind). replicate f.pieces Piece ++ (End ∷ x)) l.whole ∙ sym (append_assoc (replicate f.pieces Piece) (End ∷ []) (l.said ++ l.kind ∷ l.rest)))
      ∙ sym (append_assoc file l.said (l.kind ∷ l.rest)) in
      record {
        said = file ++ l.said;
        is_said = record { parts = File f.pieces ∷ l.is_said.parts; each = (may, l.is_said.each); whole = ap (λ (x : List Kind). file ++ x) l.is_said.whole ∙ sym (flat_map-cons part_kinds (File f.pieces) l.is_said.parts) };
        kind = l.kind;
        leaves = l.leaves;
        next = l.next;
        is_next = l.is_next;
        rest = l.rest;
        runs = l.runs;
        whole = whole;
      }

  step : (k : Kind) (ks : List Kind) → (Leads S ks Over → Leaves S singles files leaving ks) → (Leads F ks Over → LeavesFile S singles files leaving ks) →
      (next : Turn) → next_of S k ≡ Some next → Leads next ks Over → Sort S F singles files leaving k next → Leaves S singles files leaving (k ∷ ks)
  step k ks later within next n r (inl h) = one_more k ks h.0 (later (subst (λ (x : Turn). Leads x ks Over) h.1 r))
  step k ks later within next n r (inr (inl h)) =
      subst (λ (x : Kind). Leaves S singles files leaving (x ∷ ks)) (sym h.0) (file_more ks h.1 (within (subst (λ (x : Turn). Leads x ks Over) h.2 r)))
  step k ks later within next n r (inr (inr h)) = record {
    said = [];
    is_said = record { parts = []; each = tt; whole = refl };
    kind = k;
    leaves = h;
    next = next;
    is_next = n;
    rest = ks;
    runs = r;
    whole = refl;
  }

  step_within : (k : Kind) (ks : List Kind) → (Leads S ks Over → Leaves S singles files leaving ks) → (Leads F ks Over → LeavesFile S singles files leaving ks) →
      (next : Turn) → Leads next ks Over → SortWithin S F k next → LeavesFile S singles files leaving (k ∷ ks)
  step_within k ks later within next r (inl h) =
      let f = within (subst (λ (x : Turn). Leads x ks Over) h.1 r) in
      subst (λ (x : Kind). LeavesFile S singles files leaving (x ∷ ks)) (sym h.0) (record { pieces = suc f.pieces; behind = f.behind; whole = ap (λ (x : List Kind). Piece ∷ x) f.whole; later = f.later })
  step_within k ks later within next r (inr (inl h)) =
      subst (λ (x : Kind). LeavesFile S singles files leaving (x ∷ ks)) (sym h.0) (record { pieces = 0; behind = ks; whole = refl; later = later (subst (λ (x : Turn). Leads x ks Over) h.1 r) })
  step_within k ks later within next r (inr (inr h)) = absurd (failed_stays ks (subst (λ (x : Turn). Leads x ks Over) h r))

  -- both at once, since a file stands in the middle of what is said
  both : (ks : List Kind) → (Leads S ks Over → Leaves S singles files leaving ks) × (Leads F ks Over → LeavesFile S singles files leaving ks)
  both [] = (λ r. absurd (sorts.opens r), λ r. absurd (sorts.opens_within r))
  both (k ∷ ks) =
      let later = both ks in
      (λ r. step k ks later.0 later.1 r.0 r.1 r.2 (sorts.sort k r.0 r.1), λ r. step_within k ks later.0 later.1 r.0 r.2 (sorts.within k r.0 r.1))

  parsed : (ks : List Kind) → Leads S ks Over → Leaves S singles files leaving ks
  parsed ks = (both ks).0

-- ---- the states, each by its table

-- the first of two tests that holds decides
abbrev choice : Bool → Bool → Bool → Bool → Bool → Bool
choice a x b y z = cond a x (cond b y z)

chosen : (a x b y z : Bool) → choice a x b y z ≡ true → ((a ≡ true) × (x ≡ true)) ⊎ (((b ≡ true) × (y ≡ true)) ⊎ (z ≡ true))
chosen true x b y z h = inl (refl, h)
chosen false x true y z h = inr (inl (refl, h))
chosen false x false y z h = inr (inr h)

abbrev is_sorted : (S F : Turn) → List Kind → Bool → (Kind → Bool) → Kind → Turn → Bool
is_sorted S F singles files leaving k t = choice (is_in singles k) (is_turn t S) (is_kind k Begin && files) (is_turn t F) (leaving k)

abbrev is_sorted_within : (S F : Turn) → Kind → Turn → Bool
is_sorted_within S F k t = choice (is_kind k Piece) (is_turn t F) (is_kind k End) (is_turn t S) (is_turn t Failed)

sorts_from : (S F : Turn) (singles : List Kind) (files : Bool) (leaving : Kind → Bool) → each_placed S (is_sorted S F singles files leaving) ≡ true → each_placed F (is_sorted_within S F) ≡ true → is_turn S Over ≡ false → is_turn F Over ≡ false →
    Sorts S F singles files leaving
sorts_from S F singles files leaving table inner s f = record { sort = sort; within = within; opens = turn_not S Over s; opens_within = turn_not F Over f }
  where
    sort : (k : Kind) (t : Turn) → next_of S k ≡ Some t → Sort S F singles files leaving k t
    sort k t n = at_choice (chosen (is_in singles k) (is_turn t S) (is_kind k Begin && files) (is_turn t F) (leaving k) (placed_at S (is_sorted S F singles files leaving) table k t n))
      where
        at_choice : ((is_in singles k ≡ true) × (is_turn t S ≡ true)) ⊎ ((((is_kind k Begin && files) ≡ true) × (is_turn t F ≡ true)) ⊎ (leaving k ≡ true)) → Sort S F singles files leaving k t
        at_choice (inl h) = inl (h.0, turn_from t S h.1)
        at_choice (inr (inl h)) = let both = and_parts (is_kind k Begin) files h.0 in inr (inl (kind_from k Begin both.0, both.1, turn_from t F h.1))
        at_choice (inr (inr h)) = inr (inr h)

    within : (k : Kind) (t : Turn) → next_of F k ≡ Some t → SortWithin S F k t
    within k t n = at_choice (chosen (is_kind k Piece) (is_turn t F) (is_kind k End) (is_turn t S) (is_turn t Failed) (placed_at F (is_sorted_within S F) inner k t n))
      where
        at_choice : ((is_kind k Piece ≡ true) × (is_turn t F ≡ true)) ⊎ (((is_kind k End ≡ true) × (is_turn t S ≡ true)) ⊎ (is_turn t Failed ≡ true)) → SortWithin S F k t
        at_choice (inl h) = inl (kind_from k Piece h.0, turn_from t F h.1)
        at_choice (inr (inl h)) = inr (inl (kind_from k End h.0, turn_from t S h.1))
        at_choice (inr (inr h)) = inr (inr (turn_from t Failed h))

abbrev is_next : Option Turn → Turn → Bool
is_next None S = false
is_next (Some t) S = is_turn t S

abbrev all_stay : Turn → List Kind → Bool
all_stay S singles = each_kind (λ (k : Kind). cond (is_in singles k) (is_next (next_of S k) S) true)

stays_from : (S : Turn) (singles : List Kind) → all_stay S singles ≡ true → (k : Kind) → IsTrue (is_in singles k) → next_of S k ≡ Some S
stays_from S singles table k m =
    let h = kind_at (λ (j : Kind). cond (is_in singles j) (is_next (next_of S j) S) true) table k in
    at_next (next_of S k) (subst (λ (b : Bool). cond b (is_next (next_of S k) S) true ≡ true) m h)
  where
    at_next : (o : Option Turn) → is_next o S ≡ true → o ≡ Some S
    at_next None h = absurd cc
    at_next (Some t) h = ap (λ (x : Turn). Some x) (turn_from t S h)

file_stage : (S F : Turn) (singles : List Kind) → all_stay S singles ≡ true → next_of S Begin ≡ Some F → next_of F Piece ≡ Some F → next_of F End ≡ Some S → Stage S F singles true
file_stage S F singles table begins goes_on ends = record { stays = stays_from S singles table; begins = λ _. begins; goes_on = λ _. goes_on; ends = λ _. ends }

plain_stage : (S : Turn) (singles : List Kind) → all_stay S singles ≡ true → Stage S Failed singles false
plain_stage S singles table = record { stays = stays_from S singles table; begins = λ h. absurd (no h); goes_on = λ h. absurd (no h); ends = λ h. absurd (no h) }
  where
    no : IsTrue false → ⊥
    no h = cc

abbrev ends_third : Kind → Bool
ends_third = is_in (Passes ∷ Fault ∷ [])

abbrev ends_turn : Kind → Bool
ends_turn = is_in (Passes ∷ Done ∷ Fault ∷ [])

abbrev ends_last : Kind → Bool
ends_last = is_in (Done ∷ Fault ∷ [])

told_stage : Stage CallerTells CallerTellsFile (Whole ∷ Records ∷ PushOuts ∷ []) true
told_stage = file_stage CallerTells CallerTellsFile (Whole ∷ Records ∷ PushOuts ∷ []) refl refl refl refl

told_sorts : Sorts CallerTells CallerTellsFile (Whole ∷ Records ∷ PushOuts ∷ []) true ends_third
told_sorts = sorts_from CallerTells CallerTellsFile (Whole ∷ Records ∷ PushOuts ∷ []) true ends_third refl refl refl refl

back_stage : Stage CalledTells CalledTellsFile (Whole ∷ Records ∷ PushOuts ∷ Receipts ∷ Wants ∷ []) true
back_stage = file_stage CalledTells CalledTellsFile (Whole ∷ Records ∷ PushOuts ∷ Receipts ∷ Wants ∷ []) refl refl refl refl

back_sorts : Sorts CalledTells CalledTellsFile (Whole ∷ Records ∷ PushOuts ∷ Receipts ∷ Wants ∷ []) true ends_turn
back_sorts = sorts_from CalledTells CalledTellsFile (Whole ∷ Records ∷ PushOuts ∷ Receipts ∷ Wants ∷ []) true ends_turn refl refl refl refl

settled_stage : Stage CallerSettles CallerSettlesFile (Whole ∷ Missing ∷ Receipts ∷ Wants ∷ []) true
settled_stage = file_stage CallerSettles CallerSettlesFile (Whole ∷ Missing ∷ Receipts ∷ Wants ∷ []) refl refl refl refl

settled_sorts : Sorts CallerSettles CallerSettlesFile (Whole ∷ Missing ∷ Receipts ∷ Wants ∷ []) true ends_turn
settled_sorts = sorts_from CallerSettles CallerSettlesFile (Whole ∷ Missing ∷ Receipts ∷ Wants ∷ []) true ends_turn refl refl refl refl

wanted_stage : Stage CallerWants Failed (Receipts ∷ Wants ∷ []) false
wanted_stage = plain_stage CallerWants (Receipts ∷ Wants ∷ []) refl

wanted_sorts : Sorts CallerWants Failed (Receipts ∷ Wants ∷ []) false ends_turn
wanted_sorts = sorts_from CallerWants Failed (Receipts ∷ Wants ∷ []) false ends_turn refl refl refl refl

settled_back_stage : Stage CalledSettles CalledSettlesFile (Whole ∷ Missing ∷ Receipts ∷ []) true
settled_back_stage = file_stage CalledSettles CalledSettlesFile (Whole ∷ Missing ∷ Receipts ∷ []) refl refl refl refl

settled_back_sorts : Sorts CalledSettles CalledSettlesFile (Whole ∷ Missing ∷ Receipts ∷ []) true ends_last
settled_back_sorts = sorts_from CalledSettles CalledSettlesFile (Whole ∷ Missing ∷ Receipts ∷ []) true ends_last refl refl refl refl

closes_stage : Stage CalledCloses Failed (Receipts ∷ []) false
closes_stage = plain_stage CalledCloses (Receipts ∷ []) refl

closes_sorts : Sorts CalledCloses Failed (Receipts ∷ []) false ends_last
closes_sorts = sorts_from CalledCloses Failed (Receipts ∷ []) false ends_last refl refl refl refl

last_stage : Stage CallerCloses Failed (Receipts ∷ []) false
last_stage = plain_stage CallerCloses (Receipts ∷ []) refl

last_sorts : Sorts CallerCloses Failed (Receipts ∷ []) false ends_last
last_sorts = sorts_from CallerCloses Failed (Receipts ∷ []) false ends_last refl refl refl refl

-- ---- each talk is accepted

close_runs : (S : Turn) → Stage S Failed (Receipts ∷ []) false → next_of S Done ≡ Some Over → (ks : List Kind) → IsClose ks → Leads S ks Over
close_runs S stage e ks c = subst (λ (x : List Kind). Leads S x Over) (sym c.whole) (said_stays stage c.sixth (Done ∷ []) Over c.receipts (Over, e, refl))

late_runs : (ks : List Kind) → IsLate ks → Leads CalledSettles ks Over
late_runs ks l =
    let last : Leads CallerCloses (l.seventh ++ Done ∷ []) Over = said_stays last_stage l.seventh (Done ∷ []) Over l.receipts (Over, refl, refl) in
    subst (λ (x : List Kind). Leads CalledSettles x Over) (sym l.whole) (said_stays settled_back_stage l.sixth (Done ∷ (l.seventh ++ Done ∷ [])) Over l.settled (CallerCloses, refl, last))

open_runs : (ks : List Kind) → IsOpen ks → Leads CallerSettles ks Over
open_runs ks o = at_rest o.whole
  where
    at_rest : (IsLate o.rest × (ks ≡ o.fifth ++ Passes ∷ o.rest)) ⊎ (IsClose o.rest × (ks ≡ o.fifth ++ Done ∷ o.rest)) → Leads CallerSettles ks Over
    at_rest (inl h) = subst (λ (x : List Kind). Leads CallerSettles x Over) (sym h.1) (said_stays settled_stage o.fifth (Passes ∷ o.rest) Over o.settled (CalledSettles, refl, late_runs o.rest h.0))
    at_rest (inr h) = subst (λ (x : List Kind). Leads CallerSettles x Over) (sym h.1) (said_stays settled_stage o.fifth (Done ∷ o.rest) Over o.settled (CalledCloses, refl, close_runs CalledCloses closes_stage refl o.rest h.0))

half_runs : (ks : List Kind) → IsHalfDone ks → Leads CallerWants ks Over
half_runs ks o = at_rest o.whole
  where
    at_rest : (IsLate o.rest × (ks ≡ o.fifth ++ Passes ∷ o.rest)) ⊎ ((o.rest ≡ []) × (ks ≡ o.fifth ++ Done ∷ [])) → Leads CallerWants ks Over
    at_rest (inl h) = subst (λ (x : List Kind). Leads CallerWants x Over) (sym h.1) (said_stays wanted_stage o.fifth (Passes ∷ o.rest) Over o.wanted (CalledSettles, refl, late_runs o.rest h.0))
    at_rest (inr h) = subst (λ (x : List Kind). Leads CallerWants x Over) (sym h.1) (said_stays wanted_stage o.fifth (Done ∷ []) Over o.wanted (Over, refl, refl))

begun : (rest : List Kind) → Leads CallerTells rest Over → Leads CallerGreets (Hello ∷ Hello ∷ Ask ∷ Passes ∷ Ask ∷ rest) Over
begun rest r = (CalledGreets, refl, (CalledAsks, refl, (CalledPasses, refl, (CallerAsks, refl, (CallerTells, refl, r)))))

long_runs : (ks : List Kind) → IsLong ks → Leads CallerGreets ks Over
long_runs ks l = at_rest l.whole
  where
    at_rest : (IsOpen l.rest × (ks ≡ Hello ∷ Hello ∷ Ask ∷ Passes ∷ Ask ∷ (l.third ++ Passes ∷ (l.fourth ++ Passes ∷ l.rest))))
        ⊎ (IsHalfDone l.rest × (ks ≡ Hello ∷ Hello ∷ Ask ∷ Passes ∷ Ask ∷ (l.third ++ Passes ∷ (l.fourth ++ Done ∷ l.rest)))) → Leads CallerGreets ks Over
    at_rest (inl h) =
        let fourth : Leads CalledTells (l.fourth ++ Passes ∷ l.rest) Over = said_stays back_stage l.fourth (Passes ∷ l.rest) Over l.back (CallerSettles, refl, open_runs l.rest h.0) in
        subst (λ (x : List Kind). Leads CallerGreets x Over) (sym h.1)
        (begun (l.third ++ Passes ∷ (l.fourth ++ Passes ∷ l.rest)) (said_stays told_stage l.third (Passes ∷ (l.fourth ++ Passes ∷ l.rest)) Over l.told (CalledTells, refl, fourth)))
    at_rest (inr h) =
        let fourth : Leads CalledTells (l.fourth ++ Done ∷ l.rest) Over = said_stays back_stage l.fourth (Done ∷ l.rest) Over l.back (CallerWants, refl, half_runs l.rest h.0) in
        subst (λ (x : List Kind). Leads CallerGreets x Over) (sym h.1)
        (begun (l.third ++ Passes ∷ (l.fourth ++ Done ∷ l.rest)) (said_stays told_stage l.third (Passes ∷ (l.fourth ++ Done ∷ l.rest)) Over l.told (CalledTells, refl, fourth)))

pub talk_runs : (ks : List Kind) → IsWholeTalk ks → Leads CallerGreets ks Over
talk_runs ks (inl e) = subst (λ (x : List Kind). Leads CallerGreets x Over) (sym e) (CalledGreets, refl, (Over, refl, refl))
talk_runs ks (inr l) = long_runs ks l

-- ---- and what is accepted is a talk

over_is : (ks : List Kind) → Leads Over ks Over → ks ≡ []
over_is [] r = refl
over_is (k ∷ ks) r = let e : ◌≡◌ {A = Option Turn} None (Some r.0) = r.1 in absurd cc

same_next : (S : Turn) (k : Kind) (t u : Turn) → next_of S k ≡ Some t → next_of S k ≡ Some u → t ≡ u
same_next S k t u a b = cc

to : (S : Turn) (k : Kind) (t u : Turn) (rest : List Kind) → next_of S k ≡ Some u → next_of S k ≡ Some t → Leads t rest Over → Leads u rest Over
to S k t u rest e n r = subst (λ (x : Turn). Leads x rest Over) (same_next S k t u n e) r

closing : (S : Turn) → next_of S Done ≡ Some Over → next_of S Fault ≡ Some Failed → (ks : List Kind) → Leaves S (Receipts ∷ []) false ends_last ks → IsClose ks
closing S d f ks l = at_kind l.kind l.leaves l.is_next l.whole
  where
    at_kind : (k : Kind) → IsTrue (ends_last k) → next_of S k ≡ Some l.next → ks ≡ l.said ++ k ∷ l.rest → IsClose ks
    at_kind Done h n w = record { sixth = l.said; receipts = l.is_said; whole = w ∙ ap (λ (x : List Kind). l.said ++ Done ∷ x) (over_is l.rest (to S Done l.next Over l.rest d n l.runs)) }
    at_kind Fault h n w = absurd (failed_stays l.rest (to S Fault l.next Failed l.rest f n l.runs))
    at_kind k h n w = absurd cc

late_is : (ks : List Kind) → Leads CalledSettles ks Over → IsLate ks
late_is ks r = at_left (parsed settled_back_sorts ks r)
  where
    at_left : Leaves CalledSettles (Whole ∷ Missing ∷ Receipts ∷ []) true ends_last ks → IsLate ks
    at_left l = at_kind l.kind l.leaves l.is_next l.whole
      where
        at_kind : (k : Kind) → IsTrue (ends_last k) → next_of CalledSettles k ≡ Some l.next → ks ≡ l.said ++ k ∷ l.rest → IsLate ks
        at_kind Done h n w =
            let c = closing CallerCloses refl refl l.rest (parsed last_sorts l.rest (to CalledSettles Done l.next CallerCloses l.rest refl n l.runs)) in
            record { sixth = l.said; seventh = c.sixth; settled = l.is_said; receipts = c.receipts; whole = w ∙ ap (λ (x : List Kind). l.said ++ Done ∷ x) c.whole }
        at_kind Fault h n w = absurd (failed_stays l.rest (to CalledSettles Fault l.next Failed l.rest refl n l.runs))
        at_kind k h n w = absurd cc

open_is : (ks : List Kind) → Leads CallerSettles ks Over → IsOpen ks
open_is ks r = at_left (parsed settled_sorts ks r)
  where
    at_left : Leaves CallerSettles (Whole ∷ Missing ∷ Receipts ∷ Wants ∷ []) true ends_turn ks → IsOpen ks
    at_left l = at_kind l.kind l.leaves l.is_next l.whole
      where
        at_kind : (k : Kind) → IsTrue (ends_turn k) → next_of CallerSettles k ≡ Some l.next → ks ≡ l.said ++ k ∷ l.rest → IsOpen ks
        at_kind Passes h n w = record { fifth = l.said; rest = l.rest; settled = l.is_said; whole = inl (late_is l.rest (to CallerSettles Passes l.next CalledSettles l.rest refl n l.runs), w) }
        at_kind Done h n w =
            record { fifth = l.said; rest = l.rest; settled = l.is_said; whole = inr (closing CalledCloses refl refl l.rest (parsed closes_sorts l.rest (to CallerSettles Done l.next CalledCloses l.rest refl n l.runs)), w) }
        at_kind Fault h n w = absurd (failed_stays l.rest (to CallerSettles Fault l.next Failed l.rest refl n l.runs))
        at_kind k h n w = absurd cc

half_is : (ks : List Kind) → Leads CallerWants ks Over → IsHalfDone ks
half_is ks r = at_left (parsed wanted_sorts ks r)
  where
    at_left : Leaves CallerWants (Receipts ∷ Wants ∷ []) false ends_turn ks → IsHalfDone ks
    at_left l = at_kind l.kind l.leaves l.is_next l.whole
      where
        at_kind : (k : Kind) → IsTrue (ends_turn k) → next_of CallerWants k ≡ Some l.next → ks ≡ l.said ++ k ∷ l.rest → IsHalfDone ks
        at_kind Passes h n w = record { fifth = l.said; rest = l.rest; wanted = l.is_said; whole = inl (late_is l.rest (to CallerWants Passes l.next CalledSettles l.rest refl n l.runs), w) }
        at_kind Done h n w =
            let none : l.rest ≡ [] = over_is l.rest (to CallerWants Done l.next Over l.rest refl n l.runs) in
            record { fifth = l.said; rest = l.rest; wanted = l.is_said; whole = inr (none, w ∙ ap (λ (x : List Kind). l.said ++ Done ∷ x) none) }
        at_kind Fault h n w = absurd (failed_stays l.rest (to CallerWants Fault l.next Failed l.rest refl n l.runs))
        at_kind k h n w = absurd cc

-- the third and the fourth turn, and what comes behind them
record IsThird (kinds : List Kind) : Type 0 where
  pub third : List Kind
  pub rest : List Kind
  pub told : IsTold third
  pub whole : kinds ≡ third ++ Passes ∷ rest
  pub runs : Leads CalledTells rest Over

third_is : (ks : List Kind) → Leads CallerTells ks Over → IsThird ks
third_is ks r = at_left (parsed told_sorts ks r)
  where
    at_left : Leaves CallerTells (Whole ∷ Records ∷ PushOuts ∷ []) true ends_third ks → IsThird ks
    at_left l = at_kind l.kind l.leaves l.is_next l.whole
      where
        at_kind : (k : Kind) → IsTrue (ends_third k) → next_of CallerTells k ≡ Some l.next → ks ≡ l.said ++ k ∷ l.rest → IsThird ks
        at_kind Passes h n w = record { third = l.said; rest = l.rest; told = l.is_said; whole = w; runs = to CallerTells Passes l.next CalledTells l.rest refl n l.runs }
        at_kind Fault h n w = absurd (failed_stays l.rest (to CallerTells Fault l.next Failed l.rest refl n l.runs))
        at_kind k h n w = absurd cc

long_is : (rest : List Kind) → Leads CallerTells rest Over → IsLong (Hello ∷ Hello ∷ Ask ∷ Passes ∷ Ask ∷ rest)
long_is rest r = at_third (third_is rest r)
  where
    front : {x y : List Kind} → x ≡ y → Hello ∷ Hello ∷ Ask ∷ Passes ∷ Ask ∷ x ≡ Hello ∷ Hello ∷ Ask ∷ Passes ∷ Ask ∷ y
    front e = ap (λ (z : List Kind). Hello ∷ Hello ∷ Ask ∷ Passes ∷ Ask ∷ z) e

    at_third : IsThird rest → IsLong (Hello ∷ Hello ∷ Ask ∷ Passes ∷ Ask ∷ rest)
    at_third t = at_left (parsed back_sorts t.rest t.runs)
      where
        at_left : Leaves CalledTells (Whole ∷ Records ∷ PushOuts ∷ Receipts ∷ Wants ∷ []) true ends_turn t.rest → IsLong (Hello ∷ Hello ∷ Ask ∷ Passes ∷ Ask ∷ rest)
        at_left l = at_kind l.kind l.leaves l.is_next l.whole
          where
            at_kind : (k : Kind) → IsTrue (ends_turn k) → next_of CalledTells k ≡ Some l.next → t.rest ≡ l.said ++ k ∷ l.rest → IsLong (Hello ∷ Hello ∷ Ask ∷ Passes ∷ Ask ∷ rest)
            at_kind Passes h n w = record {
              third = t.third;
              fourth = l.said;
              rest = l.rest;
              told = t.told;
              back = l.is_said;
              whole = inl (open_is l.rest (to CalledTells Passes l.next CallerSettles l.rest refl n l.runs), front (t.whole ∙ ap (λ (x : List Kind). t.third ++ Passes ∷ x) w));
            }
            at_kind Done h n w = record {
              third = t.third;
              fourth = l.said;
              rest = l.rest;
              told = t.told;
              back = l.is_said;
              whole = inr (half_is l.rest (to CalledTells Done l.next CallerWants l.rest refl n l.runs), front (t.whole ∙ ap (λ (x : List Kind). t.third ++ Passes ∷ x) w));
            }
            at_kind Fault h n w = absurd (failed_stays l.rest (to CalledTells Fault l.next Failed l.rest refl n l.runs))
            at_kind k h n w = absurd cc

-- a state in which only this message has a place, besides a fault
only : (S T : Turn) (j : Kind) → each_placed S (λ k t. cond (is_kind k j) (is_turn t T) (is_turn t Failed)) ≡ true → is_turn S Over ≡ false → (ks : List Kind) → Leads S ks Over → (rest : List Kind) × (ks ≡ j ∷ rest) × Leads T rest Over
only S T j table s [] r = absurd (turn_not S Over s r)
only S T j table s (k ∷ ks) r = at_test (is_kind k j) refl (placed_at S (λ k t. cond (is_kind k j) (is_turn t T) (is_turn t Failed)) table k r.0 r.1)
  where
    at_test : (b : Bool) → is_kind k j ≡ b → cond (is_kind k j) (is_turn r.0 T) (is_turn r.0 Failed) ≡ true → (rest : List Kind) × (k ∷ ks ≡ j ∷ rest) × Leads T rest Over
    at_test true e h =
        let is : r.0 ≡ T = turn_from r.0 T (subst (λ (b : Bool). cond b (is_turn r.0 T) (is_turn r.0 Failed) ≡ true) e h) in
        (ks, ap (λ (x : Kind). x ∷ ks) (kind_from k j e), subst (λ (x : Turn). Leads x ks Over) is r.2)
    at_test false e h =
        let is : r.0 ≡ Failed = turn_from r.0 Failed (subst (λ (b : Bool). cond b (is_turn r.0 T) (is_turn r.0 Failed) ≡ true) e h) in
        absurd (failed_stays ks (subst (λ (x : Turn). Leads x ks Over) is r.2))

greets_back : (ks : List Kind) → Leads CalledGreets ks Over → (ks ≡ Idle ∷ []) ⊎ ((rest : List Kind) × (ks ≡ Hello ∷ rest) × Leads CalledAsks rest Over)
greets_back [] r = absurd cc
greets_back (Idle ∷ ks) r = inl (ap (λ (x : List Kind). Idle ∷ x) (over_is ks (to CalledGreets Idle r.0 Over ks refl r.1 r.2)))
greets_back (Hello ∷ ks) r = inr (ks, refl, to CalledGreets Hello r.0 CalledAsks ks refl r.1 r.2)
greets_back (Fault ∷ ks) r = absurd (failed_stays ks (to CalledGreets Fault r.0 Failed ks refl r.1 r.2))
greets_back (k ∷ ks) r = absurd cc

pub runs_talk : (ks : List Kind) → Leads CallerGreets ks Over → IsWholeTalk ks
runs_talk ks r = at_first (only CallerGreets CalledGreets Hello refl refl ks r)
  where
    at_first : (rest : List Kind) × (ks ≡ Hello ∷ rest) × Leads CalledGreets rest Over → IsWholeTalk ks
    at_first a = at_second (greets_back a.0 a.2)
      where
        at_second : (a.0 ≡ Idle ∷ []) ⊎ ((rest : List Kind) × (a.0 ≡ Hello ∷ rest) × Leads CalledAsks rest Over) → IsWholeTalk ks
        at_second (inl e) = inl (a.1 ∙ ap (λ (x : List Kind). Hello ∷ x) e)
        at_second (inr b) =
            let c = only CalledAsks CalledPasses Ask refl refl b.0 b.2 in
            let d = only CalledPasses CallerAsks Passes refl refl c.0 c.2 in
            let e = only CallerAsks CallerTells Ask refl refl d.0 d.2 in
            let whole : ks ≡ Hello ∷ Hello ∷ Ask ∷ Passes ∷ Ask ∷ e.0 =
            a.1 ∙ ap (λ (x : List Kind). Hello ∷ x) (b.1 ∙ ap (λ (x : List Kind). Hello ∷ x) (c.1 ∙ ap (λ (x : List Kind). Ask ∷ x) (d.1 ∙ ap (λ (x : List Kind). Passes ∷ x) e.1))) in
            inr (subst (λ (x : List Kind). IsLong x) (sym whole) (long_is e.0 e.2))
