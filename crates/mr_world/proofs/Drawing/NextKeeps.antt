-- Next: what agrees still agrees.
use Rattle.std.proofs.Common.{◌≡◌, ◌≢◌, refl, sym, ap, subst, ◌∙◌, ℕ, ◌+◌, ◌<◌, ◌==◌, Bool, true, false, not, ◌||◌, ◌&&◌, List, [], ◌∷◌, map, ◌⊎◌, inl, inr, IsTrue, IsFalse, arith, eqb-true, eq-eqb, Option, Some, None}
use Rattle.mr_world.proofs.Names.Lists.{and_from, and_parts, both_ways, list_any}
use Rattle.mr_world.proofs.Names.Wire.{Body, End, Full, Held, Item, Know, MoveOut, Piece, Sent, Start}
use Rattle.mr_world.proofs.Names.Replica.{State, line_of}
use Rattle.mr_world.proofs.Names.Sessions.{Asked, Stream, claimed, is_ahead, is_due, is_end, is_full_mode, is_item, is_start, is_wanted, lists, told}
use Rattle.mr_world.proofs.Names.Model.{HasHeld, In, IsOf, Record, Versions, after_giving, at_two, is, is_before, is_held as is_held_seen, is_issued}
use Rattle.mr_world.proofs.Names.Model.{item_of, same_stream, starts_full, stored, version_in}
use Rattle.mr_world.proofs.Names.Laws.{any_elim, any_intro, before_trans, cases, choice, held_more, held_split, is_refl, of_more, of_split, or_left}
use Rattle.mr_world.proofs.Names.Laws.{or_right, two_same}
use Rattle.mr_world.proofs.Names.Mails.{AuthorColumn, ClauseParts, Form, Name, Rev, in_any, name_eq, vector_has}
use Rattle.mr_world.proofs.Names.World.{AreOfIssues, IsToldWhole, IsTrueBody, IsTrueRevision, MailMoment, RecordsAgree, StreamAgrees, left_to_show}
use Rattle.mr_world.proofs.Names.World.{seen_body, seen_record, shown, shown_by, told_by, told_pairs}
use Rattle.mr_model.specs.History.{Body.End as SeenEnd, Body.Start as SeenStart}
use Rattle.mr_world.proofs.Drawing.Cuts.{cut_heads}
use Rattle.mr_world.proofs.Drawing.Drawn.{Drawn, Drawn.Ends_fully, Drawn.Ends_partly, Drawn.Shows_first, Drawn.Shows_more, Drawn.Starts, Drawn.Tells, Drawn.Walks, Source, record_of, revision_held}
use Rattle.mr_world.proofs.Drawing.Due.{lower_first}
use Rattle.mr_world.proofs.Groundwork.Orders.{before_irrefl, held_in}
use Rattle.mr_world.proofs.Agreement.Parts.{IsAt, parts_next, parts_other}
use Rattle.mr_world.proofs.Groundwork.Tools.{map_in, or_none, two_other}

-- ---- held_at_draw after a Next

pub hd_unheld : (m : MailMoment) (x : Record) → IsFalse (is_held_seen x.body) → (after_giving m x).held_at_draw ≡ m.held_at_draw
hd_unheld m x n = rw n refl

-- whether the stream of x has shown its heads
abbrev has_shown : MailMoment → Record → Bool
has_shown m x = list_any (λ y. same_stream y x && is_held_seen y.body) m.given

pub hd_other : (m : MailMoment) (x : Record) (s t : ℕ) → ¬ ((x.source ≡ s) × (x.stream ≡ t)) → (after_giving m x).held_at_draw s t ≡ m.held_at_draw s t
hd_other m x s t other = grind (arith, choice, is_held_seen, at_two, stored, two_other)

pub hd_later : (m : MailMoment) (x : Record) → HasHeld m.given x.source x.stream → (after_giving m x).held_at_draw ≡ m.held_at_draw
hd_later m x h = grind (arith, any_intro, same_stream, is_held_seen, and_from, eq-eqb, choice, at_two, stored, and_parts)

pub hd_first : (m : MailMoment) (x : Record) → IsTrue (is_held_seen x.body) → ¬ HasHeld m.given x.source x.stream → (after_giving m x).held_at_draw x.source x.stream ≡ stored m x.source
hd_first m x h k = grind (arith, choice, stored, is_held_seen, at_two, two_same, both_ways, and_from, cases, any_elim, same_stream, and_parts, eqb-true)

-- a piece lists an item, unless it lists none
some_item : (items : Option (List Name)) → items ≢ Some [] → (i : Name) × IsTrue (lists items i)
some_item None h = (record { author = 0; counter = 0 }, refl)
some_item (Some []) h = absurd (h refl)
some_item (Some (i ∷ items)) h = (i, or_left (is i i) (list_any (λ j. name_eq j i) items) (is_refl i))

-- ---- how the walk tells a revision

module _ (asked : Asked) (x : Rev) where
  told_by_case : (P : Body → Type 0) → P (Item x) → P (MoveOut (line_of x)) → P (told asked x)
  told_by_case P item line = choice P (is_item asked x) (Item x) (MoveOut (line_of x)) (λ h. item) (λ h. line)

  told_not_end : told asked x ≢ End
  told_not_end = told_by_case (λ (b : Body). b ≢ End) (λ e. absurd (cc)) (λ e. absurd (cc))

  told_unheld : IsFalse (is_held_seen (seen_body (told asked x)))
  told_unheld = told_by_case (λ (b : Body). IsFalse (is_held_seen (seen_body b))) refl refl

  told_shows : (w : Name) → shown_by (told asked x) w ≡ false
  told_shows w = told_by_case (λ (b : Body). shown_by b w ≡ false) refl refl

  told_tells : (i w : Name) → told_by (told asked x) i w ≡ false
  told_tells i w = told_by_case (λ (b : Body). told_by b i w ≡ false) refl refl

  told_version : version_in (seen_body (told asked x)) ≡ Some x.version
  told_version = told_by_case (λ (b : Body). version_in (seen_body b) ≡ Some x.version) refl refl

  told_starts : starts_full (seen_body (told asked x)) ≡ false
  told_starts = told_by_case (λ (b : Body). starts_full (seen_body b) ≡ false) refl refl

  told_no_start : is_start (told asked x) ≡ false
  told_no_start = told_by_case (λ (b : Body). is_start b ≡ false) refl refl

module _ {K : Type 0} (form : Form K) (filters : ℕ → List ClauseParts) (m : MailMoment) (records : List Sent) (r opened number : ℕ) (s : State K) (k : Stream) (a : Source form filters m records r opened number s k)
    (given : m.given ≡ map seen_record records) (b : Body) where
  abbrev x : Sent
  x = record_of r number k b

  abbrev held_then : ℕ → ℕ → Versions
  held_then = (after_giving m (seen_record x)).held_at_draw

  -- the stream with its next record one further
  abbrev pub moved_on : Stream → Stream
  moved_on left = record left { next = k.next + 1 }

  -- it agrees once the record was given
  abbrev pub AgreesNext : Stream → Type 0
  AgreesNext left = StreamAgrees m.issues filters (x ∷ records) (seen_record x ∷ m.given) r opened number (m.ask_of r number) (m.known_at_answer r number) (held_then r number) (moved_on left)

  pub given_below : (y : Sent) → In y records → y.header.source ≡ r → y.header.stream ≡ number → y.header.index < k.next
  given_below y i e e' = a.stream.below_next (seen_record y) (record { is_given = subst (In (seen_record y)) (sym given) (map_in seen_record records y i); source_is = e; stream_is = e' })

  -- the walk's last version stands at v or behind it
  abbrev IsPast : Option Name → Name → Type 0
  IsPast past v = (p : Name) × (past ≡ Some p) × ¬ IsTrue (is_before p v)

  -- v was given, now or before
  abbrev IsBehind : Name → Type 0
  IsBehind v = (version_in (seen_body b) ≡ Some v) ⊎ IsPast k.past v

  -- what becomes of the stream
  record Advance (past : Option Name) (left : Option (List (List AuthorColumn))) (know : List Piece) : Type 0 where
    no_end : seen_body b ≢ SeenEnd
    begun : (k.next ≢ 0) ⊎ (seen_body b ≡ SeenStart (is_full_mode k.mode))
    behind : (v : Name) → IsBehind v → IsPast past v
    full : left ≢ None → is_full_mode k.mode ≡ true
    starts : starts_full (seen_body b) ≡ true → is_full_mode k.mode ≡ true
    went : (p : Name) → past ≡ Some p → (k.past ≡ Some p) ⊎ (version_in (seen_body b) ≡ Some p)
    walking : left ≡ None → (k.held ≡ None) × IsFalse (is_held_seen (seen_body b))
    showing : left ≢ None → (k.held ≢ None) ⊎ IsTrue (is_held_seen (seen_body b))
    held : left ≢ None → (v : Name) → ((shown_by b v || shown records r number k.next v) || left_to_show left v) ≡ held_then r number v
    none_shown : left ≡ None → (v : Name) → shown_by b v ≡ false
    tells : is_full_mode k.mode ≡ true → (i v : Name) → ((told_by b i v || told_pairs records r number k.next i v) || claimed know i v) ≡ (told_pairs records r number k.next i v || claimed k.know i v)
    fewer : (i v : Name) → IsTrue (claimed know i v) → IsTrue (claimed k.know i v)
    held_issued : AreOfIssues m.issues (left_to_show left)
    listed : (piece : Piece) → In piece know → In piece k.know

  advances : (past : Option Name) (left : Option (List (List AuthorColumn))) (know : List Piece) → Advance past left know → AgreesNext (record k { past = past; held = left; know = know })
  advances past left know d = record {
    old = a.stream.old;
    ask = a.stream.ask;
    asked = a.stream.asked;
    sees = a.stream.sees;
    covers = a.stream.covers;
    below_next = λ y of. elim (of_split (seen_record x) m.given r number y of) [
      | inl p ↦ (let e : k.next ≡ y.index = ap (λ (z : Record). z.index) p in omega arith)
      | inr o ↦ (let lt = a.stream.below_next y o in omega arith)
    ];
    begun = λ n. elim d.begun [
      | inl old ↦ (let h = a.stream.begun old in (h.0, of_more (seen_record x) m.given r number h.0 h.1, h.2))
      | inr now ↦ (seen_record x, record { is_given = inl refl; source_is = refl; stream_is = refl }, now)
    ];
    no_end = λ y of e. elim (of_split (seen_record x) m.given r number y of) [ inl p ↦ d.no_end (ap (λ (z : Record). z.body) p ∙ e) | inr o ↦ a.stream.no_end y o e ];
    starts = λ y of e. elim (of_split (seen_record x) m.given r number y of) [ inl p ↦ d.starts (ap (λ (z : Record). starts_full z.body) p ∙ e) | inr o ↦ a.stream.starts y o e ];
    past = λ p e. elim (d.went p e) [
      | inl old ↦ (let h = a.stream.past p old in (h.0, of_more (seen_record x) m.given r number h.0 h.1, h.2))
      | inr new ↦ (seen_record x, record { is_given = inl refl; source_is = refl; stream_is = refl }, new)
    ];
    behind = λ y v of e. d.behind v (elim (of_split (seen_record x) m.given r number y of) [ inl p ↦ inl (ap (λ (z : Record). version_in z.body) p ∙ e) | inr o ↦ inr (a.stream.behind y v o e) ]);
    walking = λ e h. (let w = d.walking e in elim (held_split (seen_record x) m.given r number h) [ inl n ↦ both_ways (is_held_seen (seen_body b)) w.1 n.0 | inr o ↦ a.stream.walking w.0 o ]);
    showing = λ e. elim (d.showing e) [
      | inl old ↦ held_more (seen_record x) m.given r number (a.stream.showing old)
      | inr new ↦ (seen_record x, record { is_given = inl refl; source_is = refl; stream_is = refl }, new)
    ];
    shows_full = d.full;
    unbegun = λ e. absurd (omega arith);
    held = λ e v. ap (λ (z : Bool). z || left_to_show left v) (parts_next (λ b. shown_by b v) x records given_below) ∙ d.held e v;
    none_shown = λ e v. parts_next (λ b. shown_by b v) x records given_below ∙ rw (d.none_shown e v) (a.stream.none_shown (d.walking e).0 v);
    held_issued = d.held_issued;
    knows = λ e. (let h = a.stream.knows e in record {
      issued = λ i v j. h.issued i v (sym (all_told e i v) ∙ j);
      same = λ v j. all_told e (item_of m.issues v) v ∙ h.same v j;
    });
    know_issued = λ i v h. a.stream.know_issued i v (d.fewer i v h);
    listed = λ f i. a.stream.listed f (d.listed f i);
  }
    where
      all_told : is_full_mode k.mode ≡ true → (i v : Name) → (told_pairs (x ∷ records) r number (k.next + 1) i v || claimed know i v) ≡ (told_pairs records r number k.next i v || claimed k.know i v)
      all_told e i v = ap (λ (z : Bool). z || claimed know i v) (parts_next (λ b. told_by b i v) x records given_below) ∙ d.tells e i v

  hd_is_old : IsFalse (is_held_seen (seen_body b)) → (v : Name) → held_then r number v ≡ m.held_at_draw r number v
  hd_is_old n v = ap (λ (h : ℕ → ℕ → Versions). h r number v) (hd_unheld m (seen_record x) n)

  hd_is_later : HasHeld m.given r number → (v : Name) → held_then r number v ≡ m.held_at_draw r number v
  hd_is_later h v = ap (λ (h : ℕ → ℕ → Versions). h r number v) (hd_later m (seen_record x) h)

  -- an unheld body that tells nothing moves nothing but the walk
  quiet : (past : Option Name) → seen_body b ≢ SeenEnd → (k.next ≢ 0) ⊎ (seen_body b ≡ SeenStart (is_full_mode k.mode)) → ((v : Name) → IsBehind v → IsPast past v) → (starts_full (seen_body b) ≡ true → is_full_mode k.mode ≡ true) →
      ((p : Name) → past ≡ Some p → (k.past ≡ Some p) ⊎ (version_in (seen_body b) ≡ Some p)) → k.held ≡ None → IsFalse (is_held_seen (seen_body b)) → ((v : Name) → shown_by b v ≡ false) → ((i v : Name) → told_by b i v ≡ false) → Advance past k.held k.know
  quiet past no_end begun behind starts went walks unheld shows tells = record {
    no_end = no_end;
    begun = begun;
    behind = behind;
    full = λ e. absurd (e walks);
    starts = starts;
    went = went;
    walking = λ e. (walks, unheld);
    showing = λ e. absurd (e walks);
    held = λ e v. absurd (e walks);
    none_shown = λ e v. shows v;
    tells = λ e i v. rw (tells i v) refl;
    fewer = λ i v h. h;
    held_issued = a.stream.held_issued;
    listed = λ f i. i;
  }

  -- a body without a version leaves the walk where it was
  unmoved : version_in (seen_body b) ≡ None → (v : Name) → IsBehind v → IsPast k.past v
  unmoved none v h = elim h [ inl e ↦ (let c : None ≡ Some v = sym none ∙ e in absurd (cc)) | inr o ↦ o ]

  becomes : (past : Option Name) (held : Option (List (List AuthorColumn))) (know : List Piece) (left : Stream) → left ≡ record k { past = past; held = held; know = know } → Advance past held know → AgreesNext left
  becomes past held know left e d = subst AgreesNext (sym e) (advances past held know d)

  -- an End is no body of a stream that goes on
  no_end_drawn : (left : Stream) → b ≡ End → IsFalse (is_end b) → AgreesNext left
  no_end_drawn left e goes_on = absurd (both_ways (is_end b) goes_on (ap is_end e))

  pub stream_drawn : (left : Stream) → Drawn s k b left → IsFalse (is_end b) → AgreesNext left
  stream_drawn left (Starts n eb e) goes_on = becomes k.past k.held k.know left e (quiet k.past
      (λ q. let c : seen_body (Start k.mode) ≡ SeenEnd = ap seen_body (sym eb) ∙ q in absurd (cc))
      (inr (ap seen_body eb)) (unmoved (ap (λ (z : Body). version_in (seen_body z)) eb))
      (λ q. ap (λ (z : Body). starts_full (seen_body z)) (sym eb) ∙ q) (λ p e. inl e) (a.stream.unbegun n)
      (ap (λ (z : Body). is_held_seen (seen_body z)) eb) (λ v. ap (λ (z : Body). shown_by z v) eb) (λ i v. ap (λ (z : Body). told_by z i v) eb))
  stream_drawn left (Walks n h y found eb e) goes_on = becomes (Some y.version) k.held k.know left e (quiet (Some y.version)
      (λ q. no_end (ap seen_body (sym eb) ∙ q)) (inl n) moved
      (λ q. let c : false ≡ true = sym (told_starts k.asked y) ∙ (ap (λ (z : Body). starts_full (seen_body z)) (sym eb) ∙ q) in absurd (cc))
      (λ p e. inr (ap (λ (z : Body). version_in (seen_body z)) eb ∙ (told_version k.asked y ∙ e))) h
      (ap (λ (z : Body). is_held_seen (seen_body z)) eb ∙ told_unheld k.asked y) (λ v. ap (λ (z : Body). shown_by z v) eb ∙ told_shows k.asked y v) (λ i v. ap (λ (z : Body). told_by z i v) eb ∙ told_tells k.asked y i v))
    where
      ahead : IsTrue (is_ahead k.past y.version)
      ahead = (and_parts (is_ahead k.past y.version) (is_wanted k.asked y) (lower_first (is_due k.asked k.past) s.heads s.push_outs a.holdings.heads.in_order a.holdings.push_outs.in_order y found).passes).0

      moved : (v : Name) → IsBehind v → IsPast (Some y.version) v
      moved v h = (
        y.version,
        refl,
        elim h [
          | inl q ↦ (let p : Some y.version ≡ Some v = sym (told_version k.asked y) ∙ (ap (λ (z : Body). version_in (seen_body z)) (sym eb) ∙ q) in let same : y.version ≡ v = cc in
              λ l. before_irrefl y.version (subst (λ (z : Name). IsTrue (is_before y.version z)) (sym same) l))
          | inr o ↦ (let before : IsTrue (is_before o.0 y.version) = subst (λ (z : Option Name). IsTrue (is_ahead z y.version)) o.1 ahead in λ l. o.2 (before_trans o.0 y.version v before l))
        ],
      )

      no_end : seen_body (told k.asked y) ≢ SeenEnd
      no_end q = let c : version_in SeenEnd ≡ Some y.version = ap version_in (sym q) ∙ told_version k.asked y in absurd (cc)
  stream_drawn left (Shows_first n h none full v vs cut eb e) goes_on = becomes k.past (Some vs) k.know left e (record {
    no_end = λ q. (let c : seen_body (Held v) ≡ SeenEnd = ap seen_body (sym eb) ∙ q in absurd (cc));
    begun = inl n;
    behind = unmoved (ap (λ (z : Body). version_in (seen_body z)) eb);
    full = λ q. ap is_full_mode full;
    starts = λ q. ap is_full_mode full;
    went = λ p e. inl e;
    walking = λ q. absurd (cc);
    showing = λ q. inr (ap (λ (z : Body). is_held_seen (seen_body z)) eb);
    held = λ q w. ap (λ (z : Bool). (shown_by b w || z) || in_any vector_has vs w) (a.stream.none_shown h w)
        ∙ (ap (λ (z : Bool). z || in_any vector_has vs w) (or_none (shown_by b w)) ∙ (ap (λ (z : Body). shown_by z w || in_any vector_has vs w) eb ∙ (cut_heads s.heads (v ∷ vs) cut w ∙ (a.holdings.heads.same w
        ∙ ap (λ (f : Versions). f w) (sym (hd_first m (seen_record x) (ap (λ (z : Body). is_held_seen (seen_body z)) eb) (a.stream.walking h)))))));
    none_shown = λ q. absurd (cc);
    tells = λ q i w. ap (λ (z : Body). (told_by z i w || told_pairs records r number k.next i w) || claimed k.know i w) eb;
    fewer = λ i w j. j;
    held_issued = λ w j. (let t = held_in s.heads w (sym (cut_heads s.heads (v ∷ vs) cut w) ∙ or_right (vector_has v w) (in_any vector_has vs w) j) in
        subst (λ (z : Name). IsTrue (is_issued m.issues z)) t.2 (a.holdings.heads.each t.0 t.1).below.is_one);
    listed = λ f i. i;
  })
  stream_drawn left (Ends_partly n h none part eb) goes_on = no_end_drawn left eb goes_on
  stream_drawn left (Shows_more n v vs h eb e) goes_on = becomes k.past (Some vs) k.know left e (record {
    no_end = λ q. (let c : seen_body (Held v) ≡ SeenEnd = ap seen_body (sym eb) ∙ q in absurd (cc));
    begun = inl n;
    behind = unmoved (ap (λ (z : Body). version_in (seen_body z)) eb);
    full = λ q. a.stream.shows_full begun;
    starts = λ q. (let c : starts_full (seen_body (Held v)) ≡ true = ap (λ (z : Body). starts_full (seen_body z)) (sym eb) ∙ q in absurd (cc));
    went = λ p e. inl e;
    walking = λ q. absurd (cc);
    showing = λ q. inr (ap (λ (z : Body). is_held_seen (seen_body z)) eb);
    held = λ q w. ap (λ (z : Body). (shown_by z w || shown records r number k.next w) || in_any vector_has vs w) eb
        ∙ (swap (vector_has v w) (shown records r number k.next w) (in_any vector_has vs w) ∙ (ap (λ (z : Option (List (List AuthorColumn))). shown records r number k.next w || left_to_show z w) (sym h)
        ∙ (a.stream.held begun w ∙ sym (hd_is_later (a.stream.showing begun) w))));
    none_shown = λ q. absurd (cc);
    tells = λ q i w. ap (λ (z : Body). (told_by z i w || told_pairs records r number k.next i w) || claimed k.know i w) eb;
    fewer = λ i w j. j;
    held_issued = λ w j. a.stream.held_issued w (subst (λ (z : Option (List (List AuthorColumn))). IsTrue (left_to_show z w)) (sym h) (or_right (vector_has v w) (in_any vector_has vs w) j));
    listed = λ f i. i;
  })
    where
      begun : k.held ≢ None
      begun q = let c : Some (v ∷ vs) ≡ None = sym h ∙ q in absurd (cc)

      swap : (a b c : Bool) → ((a || b) || c) ≡ (b || (a || c))
      swap true true c = refl
      swap true false c = refl
      swap false b c = refl
  stream_drawn left (Tells n h f fs known eb e) goes_on = becomes k.past k.held fs left e (record {
    no_end = λ q. (let c : seen_body (Know f) ≡ SeenEnd = ap seen_body (sym eb) ∙ q in absurd (cc));
    begun = inl n;
    behind = unmoved (ap (λ (z : Body). version_in (seen_body z)) eb);
    full = λ q. a.stream.shows_full begun;
    starts = λ q. (let c : starts_full (seen_body (Know f)) ≡ true = ap (λ (z : Body). starts_full (seen_body z)) (sym eb) ∙ q in absurd (cc));
    went = λ p e. inl e;
    walking = λ q. absurd (begun q);
    showing = λ q. inl q;
    held = λ q w. ap (λ (z : Body). (shown_by z w || shown records r number k.next w) || left_to_show k.held w) eb
        ∙ (a.stream.held q w ∙ sym (hd_is_old (ap (λ (z : Body). is_held_seen (seen_body z)) eb) w));
    none_shown = λ q. absurd (begun q);
    tells = λ q i w. ap (λ (z : Body). (told_by z i w || told_pairs records r number k.next i w) || claimed fs i w) eb
        ∙ (swap (lists f.items i && vector_has f.vector w) (told_pairs records r number k.next i w) (claimed fs i w) ∙ ap (λ (z : List Piece). told_pairs records r number k.next i w || claimed z i w) (sym known));
    fewer = λ i w j. subst (λ (z : List Piece). IsTrue (claimed z i w)) (sym known) (or_right (lists f.items i && vector_has f.vector w) (claimed fs i w) j);
    held_issued = a.stream.held_issued;
    listed = λ z i. subst (In z) (sym known) (inr i);
  })
    where
      begun : k.held ≢ None
      begun q = let c : Some [] ≡ None = sym h ∙ q in absurd (cc)

      swap : (a b c : Bool) → (((a || false) || b) || c) ≡ (b || (a || c))
      swap true true c = refl
      swap true false c = refl
      swap false b c = refl
  stream_drawn left (Ends_fully n h none eb) goes_on = no_end_drawn left eb goes_on

  -- ---- the pool

  not_start : k.next ≢ 0 → false ≡ (k.next == 0)
  not_start n = elim (cases (k.next == 0)) [ inl t ↦ absurd (n (eqb-true k.next 0 t)) | inr f ↦ sym f ]

  starts_drawn : (left : Stream) → Drawn s k b left → is_start b ≡ (k.next == 0)
  starts_drawn left h = grind (arith, is_start, eq-eqb, told_no_start, not_start)

  body_true : (left : Stream) → Drawn s k b left → IsTrueBody m.issues b
  body_true left (Starts n eb e) = subst (IsTrueBody m.issues) (sym eb) tt
  body_true left (Walks n h y found eb e) = subst (IsTrueBody m.issues) (sym eb) (told_by_case k.asked y (IsTrueBody m.issues) tr tr.below)
    where
      tr : IsTrueRevision m.issues y
      tr = (revision_held form filters m records r opened number s k a y (lower_first (is_due k.asked k.past) s.heads s.push_outs a.holdings.heads.in_order a.holdings.push_outs.in_order y found).among).1
  body_true left (Shows_first n h none full v vs cut eb e) = subst (IsTrueBody m.issues) (sym eb) (λ w j. (let t = held_in s.heads w (sym (cut_heads s.heads (v ∷ vs) cut w) ∙ or_left (vector_has v w) (in_any vector_has vs w) j) in
      subst (λ (z : Name). IsTrue (is_issued m.issues z)) t.2 (a.holdings.heads.each t.0 t.1).below.is_one))
  body_true left (Ends_partly n h none part eb) = subst (IsTrueBody m.issues) (sym eb) tt
  body_true left (Shows_more n v vs h eb e) = subst (IsTrueBody m.issues) (sym eb) (λ w j. a.stream.held_issued w (subst (λ (z : Option (List (List AuthorColumn))). IsTrue (left_to_show z w)) (sym h) (or_left (vector_has v w) (in_any vector_has vs w) j)))
  body_true left (Tells n h f fs known eb e) = subst (IsTrueBody m.issues) (sym eb) (λ w j. (let i = some_item f.items (a.stream.listed f (subst (In f) (sym known) (inl refl))) in
      a.stream.know_issued i.0 w (subst (λ (z : List Piece). IsTrue (claimed z i.0 w)) (sym known) (or_left (lists f.items i.0 && vector_has f.vector w) (claimed fs i.0 w) (and_from (lists f.items i.0) (vector_has f.vector w) i.1 j)))))
  body_true left (Ends_fully n h none eb) = subst (IsTrueBody m.issues) (sym eb) tt

  self_not : ¬ IsAt r number k.next x
  self_not h = let lt : k.next < k.next = h.index in absurd (omega arith)

  -- the End of a full stream: all was given
  whole_drawn : (left : Stream) → Drawn s k b left → b ≡ End → is_full_mode k.mode ≡ true → IsToldWhole m.issues (x ∷ records) m.known_at_answer held_then x
  whole_drawn left h q full = grind (arith, told_not_end, both_ways, is_full_mode, parts_other, shown_by, self_not, or_none, shown, left_to_show, hd_is_old, is_held_seen, seen_body, item_of, told_pairs, claimed, told_by)

  of_pool : (y : Sent) → In y records → y.header.source ≡ r → y.header.stream ≡ number → IsOf m.given r number (seen_record y)
  of_pool y i e e' = record { is_given = subst (In (seen_record y)) (sym given) (map_in seen_record records y i); source_is = e; stream_is = e' }

  pub records_drawn : (left : Stream) → Drawn s k b left → RecordsAgree m.issues records m.known_at_answer m.held_at_draw → RecordsAgree m.issues (x ∷ records) m.known_at_answer held_then
  records_drawn left d old = record {
    each = λ y i. elim i [ inl p ↦ subst (λ (z : Sent). IsTrueBody m.issues z.body) p (body_true left d) | inr j ↦ old.each y j ];
    starts = λ y i. elim i [ inl p ↦ subst (λ (z : Sent). is_start z.body ≡ (z.header.index == 0)) p (starts_drawn left d) | inr j ↦ old.starts y j ];
    one_place = λ y z i j one. elim i [
      | inl p ↦ elim j [
        | inl q ↦ sym p ∙ q
        | inr l ↦ (let lt = given_below z l (sym one.0 ∙ ap (λ (u : Sent). u.header.source) (sym p)) (sym one.1 ∙ ap (λ (u : Sent). u.header.stream) (sym p)) in let e : k.next ≡ z.header.index = ap (λ (u : Sent). u.header.index) p ∙ one.2 in absurd (omega arith))
      ]
      | inr l ↦ elim j [
        | inl q ↦ (let lt = given_below y l (one.0 ∙ ap (λ (u : Sent). u.header.source) (sym q)) (one.1 ∙ ap (λ (u : Sent). u.header.stream) (sym q)) in let e : y.header.index ≡ k.next = one.2 ∙ ap (λ (u : Sent). u.header.index) (sym q) in absurd (omega arith))
        | inr l' ↦ old.one_place y z l l' one
      ]
    ];
    whole = λ y z i j one ey ez. elim i [
      | inl p ↦ elim j [
        | inl q ↦ (let c : End ≡ Start Full = sym ey ∙ (ap (λ (u : Sent). u.body) (sym p ∙ q) ∙ ez) in absurd (cc))
        | inr l ↦ subst (IsToldWhole m.issues (x ∷ records) m.known_at_answer held_then) p (whole_drawn left d (ap (λ (u : Sent). u.body) p ∙ ey)
            (a.stream.starts (seen_record z) (of_pool z l (sym one.0 ∙ ap (λ (u : Sent). u.header.source) (sym p)) (sym one.1 ∙ ap (λ (u : Sent). u.header.stream) (sym p))) (ap (λ (c : Body). starts_full (seen_body c)) ez)))
      ]
      | inr l ↦ elim j [
        | inl q ↦ absurd (a.stream.no_end (seen_record y) (of_pool y l (one.0 ∙ ap (λ (u : Sent). u.header.source) (sym q)) (one.1 ∙ ap (λ (u : Sent). u.header.stream) (sym q))) (ap seen_body ey))
        | inr l' ↦ still y l ey (old.whole y z l l' one ey ez)
      ]
    ];
  }
    where
      still : (y : Sent) → In y records → y.body ≡ End → IsToldWhole m.issues records m.known_at_answer m.held_at_draw y → IsToldWhole m.issues (x ∷ records) m.known_at_answer held_then y
      still y i e t = record {
        held = λ v. parts_other (λ b. shown_by b v) x records y.header.source y.header.stream y.header.index not_at ∙ (t.held v ∙ ap (λ (h : Versions). h v) (sym (hd_other m (seen_record x) y.header.source y.header.stream other)));
        knows = record {
          issued = λ i v j. t.knows.issued i v (sym (parts_other (λ b. told_by b i v) x records y.header.source y.header.stream y.header.index not_at) ∙ j);
          same = λ v j. parts_other (λ b. told_by b (item_of m.issues v) v) x records y.header.source y.header.stream y.header.index not_at ∙ t.knows.same v j;
        };
      }
        where
          other : ¬ ((r ≡ y.header.source) × (number ≡ y.header.stream))
          other q = a.stream.no_end (seen_record y) (of_pool y i (sym q.0) (sym q.1)) (ap seen_body e)

          not_at : ¬ IsAt y.header.source y.header.stream y.header.index x
          not_at q = other (q.source, q.stream)
