-- How far a walk along what not all items have has come, and the column and the vector that it makes.
use Rattle.std.proofs.Common.{◌≡◌, ◌<◌, ◌≤◌, ◌+◌, ◌-◌, ◌↔◌, ◌⊎◌, ◌==◌, ◌&&◌, ◌||◌, not, ℕ, zero, suc, Bool, true, false, nat_lt, cond, List, [], ◌∷◌, ◌++◌, length, All, take, drop, refl, ap, sym, ◌∙◌, subst, arith, inl, inr}
use Rattle.mr_itemset.proofs.Names.{All-push, AreTold, AuthorColumn, COUNTERS_END, Extent, HasNoAuthorFrom, HasNoneFrom, Hole, IsColumn, IsNextAuthor}
use Rattle.mr_itemset.proofs.Names.{IsNextIn, IsRising, IsRising-end, IsTold, IsToldOfAuthor, IsVectorFrom, IsVectorFrom-with_column, Skips, Versions}
use Rattle.mr_itemset.proofs.Names.{cases_eq, cases_lt, column_has, column_has-above, column_has-edges, column_of, column_of-with_column, eq-eqb, extend}
use Rattle.mr_itemset.proofs.Names.{false≢true, hole_edges, if◌then◌else◌, is_beyond, is_on, le-ltb, lt-ltb, nat_tests, ne_eqb, of_author, vector_has}
use Rattle.mr_itemset.proofs.Names.{with_column, with_column-insert}
use Rattle.mr_forms.specs.Sets.{both}
use Rattle.mr_itemset.proofs.ToldLemmas.{beyond_parts, told_within, fewest}

-- ---- one author

-- the column so far, up to a counter that not all items have, or up to none yet
pub record Walked (all own : ℕ → Bool) (holes : List Hole) (upto : ℕ) : Type 0 where
  pub rising : IsRising 0 (hole_edges holes ++ (upto + 1) ∷ [])
  pub in_range : upto < COUNTERS_END
  pub means : (c : ℕ) → 1 ≤ c → c ≤ upto → (is_on true (hole_edges holes ++ (upto + 1) ∷ []) c ≡ true) ↔ IsTold all own c
  pub past : (c : ℕ) → upto < c → is_on true (hole_edges holes ++ (upto + 1) ∷ []) c ≡ false
  pub begins : (upto ≡ 0) ⊎ (is_beyond all own upto ≡ true)

bool-raise : (c at e : ℕ) → at ≤ e → (if nat_lt c e then true else false) ≡ (if nat_lt c at then (if nat_lt c at then true else false) else nat_lt c e)
bool-raise c at e le = grind (arith, nat_tests)

bool-under : (c first last t : ℕ) (x y z : Bool) → first ≤ last + 1 → last + 1 < t → y ≡ (if nat_lt c t then x else z) → (if nat_lt c first then true else (if nat_lt c (last + 1) then false else y)) ≡ (if nat_lt c t then (if nat_lt c first then true else (if nat_lt c (last + 1) then false else x)) else z)
bool-under c first last t x y z o l e = grind (arith, nat_tests)

-- a later end
raise : (low at e : ℕ) (holes : List Hole) → IsRising low (hole_edges holes ++ at ∷ []) → at ≤ e → IsRising low (hole_edges holes ++ e ∷ []) × ((c : ℕ) → is_on true (hole_edges holes ++ e ∷ []) c ≡ (if nat_lt c at then is_on true (hole_edges holes ++ at ∷ []) c else nat_lt c e))
raise low at e [] r le = ((let q = r.0 in omega arith, tt), λ c. bool-raise c at e le)
raise low at e (h ∷ holes) r le =
    let rest = raise (h.last + 1) at e holes r.1.1 le in
    let end : h.last + 1 < at = IsRising-end (h.last + 1) (hole_edges holes) at r.1.1 in
    ((r.0, (r.1.0, rest.0)), λ c. bool-under c h.first h.last at (is_on true (hole_edges holes ++ at ∷ []) c) (is_on true (hole_edges holes ++ e ∷ []) c) (nat_lt c e) (let o = r.1.0 in omega arith) end (rest.1 c))

-- a test and a fact of which neither holds, or both
out_iff : (b : Bool) (P : Type 0) → b ≡ false → (P → ⊥) → (b ≡ true) ↔ P
out_iff b P out none = (λ is. absurd (false≢true (sym out ∙ is)), λ p. absurd (none p))

in_iff : (b : Bool) (P : Type 0) → b ≡ true → P → (b ≡ true) ↔ P
in_iff b P is p = (λ e. p, λ q. is)

iff_from : (a b : Bool) (P : Type 0) → a ≡ b → (b ≡ true) ↔ P → (a ≡ true) ↔ P
iff_from a b P e both = (λ is. both.0 (sym e ∙ is), λ p. e ∙ both.1 p)

-- whether the column of these holes, which ends before the counter `end`, has the counter c
abbrev on : List Hole → ℕ → ℕ → Bool
on holes end c = is_on true (hole_edges holes ++ end ∷ []) c

if_true : (b : Bool) (x y : Bool) → b ≡ true → (if b then x else y) ≡ x
if_true b x y e = rw e refl

if_false : (b : Bool) (x y : Bool) → b ≡ false → (if b then x else y) ≡ y
if_false b x y e = rw e refl

module _ (all own : ℕ → Bool) (holes : List Hole) (upto first last : ℕ) (w : Walked all own holes upto) (next : IsNextIn (is_beyond all own) (upto + 1) first) (further : first ≤ last) (last_beyond : is_beyond all own last ≡ true) (row : (c : ℕ) → first ≤ c → c ≤ last → own c ≡ true) (bound : last < COUNTERS_END) where
  from_here : (c : ℕ) → first ≤ c → c < last + 1 → IsTold all own c
  from_here c from to = grind arith

  -- the step, where the holes are then these
  made : (new : List Hole) → IsRising 0 (hole_edges new ++ (last + 1) ∷ []) → ((c : ℕ) → 1 ≤ c → c < last + 1 → (on new (last + 1) c ≡ true) ↔ IsTold all own c) → ((c : ℕ) → last + 1 ≤ c → on new (last + 1) c ≡ false) → Walked all own new last
  made new rising means past = record {
    rising = rising;
    in_range = bound;
    means = λ c from to. means c from (omega arith);
    past = λ c above. past c (omega arith);
    begins = inr last_beyond;
  }

  -- a hole is between
  skipped : (at : ℕ) → upto + 1 ≤ at → at < first → own at ≡ false → (c : ℕ) → upto < c → c < first → IsTold all own c → ⊥
  skipped at low high lacks c from to told = grind (arith, cases_lt, false≢true)

  abbrev hole : Hole
  hole = record { first = upto + 1; last = first - 1 }

  walked_hole : (at : ℕ) → upto + 1 ≤ at → at < first → own at ≡ false → Walked all own (holes ++ hole ∷ []) last
  walked_hole at low high lacks = made (holes ++ hole ∷ []) both.0 means past
    where
      both : IsRising 0 (hole_edges (holes ++ hole ∷ []) ++ (last + 1) ∷ []) × ((c : ℕ) → on (holes ++ hole ∷ []) (last + 1) c ≡ (if nat_lt c first then on holes (upto + 1) c else nat_lt c (last + 1)))
      both = extend 0 (upto + 1) first (last + 1) holes w.rising (omega arith) (omega arith)

      before_on : (c : ℕ) → c < first → on (holes ++ hole ∷ []) (last + 1) c ≡ on holes (upto + 1) c
      before_on c before = both.1 c ∙ if_true (nat_lt c first) (on holes (upto + 1) c) (nat_lt c (last + 1)) (lt-ltb c first before)

      behind_on : (c : ℕ) → first ≤ c → on (holes ++ hole ∷ []) (last + 1) c ≡ nat_lt c (last + 1)
      behind_on c behind = both.1 c ∙ if_false (nat_lt c first) (on holes (upto + 1) c) (nat_lt c (last + 1)) (le-ltb c first behind)

      means : (c : ℕ) → 1 ≤ c → c < last + 1 → (on (holes ++ hole ∷ []) (last + 1) c ≡ true) ↔ IsTold all own c
      means c from to = elim (cases_lt c first) [
        | inl before ↦ iff_from (on (holes ++ hole ∷ []) (last + 1) c) (on holes (upto + 1) c) (IsTold all own c) (before_on c before) (elim (cases_lt upto c) [
          | inl behind ↦ out_iff (on holes (upto + 1) c) (IsTold all own c) (w.past c behind) (skipped at low high lacks c behind before)
          | inr within ↦ w.means c from within
        ])
        | inr here ↦ in_iff (on (holes ++ hole ∷ []) (last + 1) c) (IsTold all own c) (behind_on c here ∙ lt-ltb c (last + 1) to) (from_here c here to)
      ]

      past : (c : ℕ) → last + 1 ≤ c → on (holes ++ hole ∷ []) (last + 1) c ≡ false
      past c above = behind_on c (omega arith) ∙ le-ltb c (last + 1) above

  -- the item has all between
  filled : ((c : ℕ) → upto + 1 ≤ c → c < first → own c ≡ true) → (c : ℕ) → upto < c → c < first → IsTold all own c
  filled has c from to = elim w.begins [
    | inl none ↦ record {
      first = 1;
      last = first;
      above = omega arith;
      below = omega arith;
      begins = inl refl;
      ends = next.is_in;
      has = λ n low high. last_has n (omega arith) high;
    }
    | inr beyond ↦ record {
      first = upto;
      last = first;
      above = omega arith;
      below = omega arith;
      begins = inr beyond;
      ends = next.is_in;
      has = λ n low high. elim (cases_eq n upto) [
        | inl same ↦ ap own same ∙ (beyond_parts all own upto beyond).0
        | inr later ↦ last_has n (omega arith) high
      ];
    }
  ]
    where
      last_has : (n : ℕ) → upto + 1 ≤ n → n ≤ first → own n ≡ true
      last_has n low high = elim (cases_eq n first) [
        | inl same ↦ ap own same ∙ (beyond_parts all own first next.is_in).0
        | inr other ↦ has n low (omega arith)
      ]

  walked_on : ((c : ℕ) → upto + 1 ≤ c → c < first → own c ≡ true) → Walked all own holes last
  walked_on has = made holes both.0 means past
    where
      later : upto + 1 ≤ last + 1
      later = let above = next.above in omega arith

      both : IsRising 0 (hole_edges holes ++ (last + 1) ∷ []) × ((c : ℕ) → on holes (last + 1) c ≡ (if nat_lt c (upto + 1) then on holes (upto + 1) c else nat_lt c (last + 1)))
      both = raise 0 (upto + 1) (last + 1) holes w.rising later

      before_on : (c : ℕ) → c < upto + 1 → on holes (last + 1) c ≡ on holes (upto + 1) c
      before_on c before = both.1 c ∙ if_true (nat_lt c (upto + 1)) (on holes (upto + 1) c) (nat_lt c (last + 1)) (lt-ltb c (upto + 1) before)

      behind_on : (c : ℕ) → upto + 1 ≤ c → on holes (last + 1) c ≡ nat_lt c (last + 1)
      behind_on c behind = both.1 c ∙ if_false (nat_lt c (upto + 1)) (on holes (upto + 1) c) (nat_lt c (last + 1)) (le-ltb c (upto + 1) behind)

      told_behind : (c : ℕ) → upto + 1 ≤ c → c < last + 1 → IsTold all own c
      told_behind c behind to = elim (cases_lt c first) [
        | inl before ↦ filled has c (omega arith) before
        | inr here ↦ from_here c here to
      ]

      means : (c : ℕ) → 1 ≤ c → c < last + 1 → (on holes (last + 1) c ≡ true) ↔ IsTold all own c
      means c from to = elim (cases_lt c (upto + 1)) [
        | inl within ↦ iff_from (on holes (last + 1) c) (on holes (upto + 1) c) (IsTold all own c) (before_on c within) (w.means c from (omega arith))
        | inr behind ↦ in_iff (on holes (last + 1) c) (IsTold all own c) (behind_on c behind ∙ lt-ltb c (last + 1) to) (told_behind c behind to)
      ]

      past : (c : ℕ) → last + 1 ≤ c → on holes (last + 1) c ≡ false
      past c above = let up = later in behind_on c (omega arith) ∙ le-ltb c (last + 1) above

  -- one step of the walk
  pub walked_more : (new : List Hole) → Skips own (upto + 1) first holes new → Walked all own new last
  walked_more new h = grind (arith, walked_on, walked_hole)

-- where nothing is left, the column has what is told
pub walked_end : (all own : ℕ → Bool) (holes : List Hole) (upto : ℕ) → Walked all own holes upto → own 0 ≡ false → HasNoneFrom (is_beyond all own) (upto + 1) → (c : ℕ) → (column_has (record { upto = upto; holes = holes }) c ≡ true) ↔ IsTold all own c
walked_end all own holes upto w zero_out none c = go (cases_lt c 1) (cases_lt upto c)
  where
    go : (c < 1) ⊎ (1 ≤ c) → (upto < c) ⊎ (c ≤ upto) → (column_has (record { upto = upto; holes = holes }) c ≡ true) ↔ IsTold all own c
    go (inl below) b =
        let same : c ≡ 0 = omega arith in
        out_iff (column_has (record { upto = upto; holes = holes }) c) (IsTold all own c) (ap (column_has (record { upto = upto; holes = holes })) same) (λ told. false≢true (sym zero_out ∙ ap own (sym same) ∙ told_within all own c told))
    go (inr from) (inl behind) =
        out_iff (column_has (record { upto = upto; holes = holes }) c) (IsTold all own c) (column_has-above (record { upto = upto; holes = holes }) c behind) (λ told. let below = told.below in false≢true (sym (none told.last (omega arith)) ∙ told.ends))
    go (inr from) (inr within) =
        iff_from (column_has (record { upto = upto; holes = holes }) c) (on holes (upto + 1) c) (IsTold all own c) (column_has-edges (record { upto = upto; holes = holes }) c w.rising from) (w.means c from within)

-- ---- what the item has beside

-- what the item has beside is beyond, with what all have or without
beside_beyond : (a o : Bool) → ((a || o) && not a) ≡ (o && not a)
beside_beyond a o = grind arith

or_second : (a o : Bool) → o ≡ true → (a || o) ≡ true
or_second true o has = refl
or_second false o has = has

-- all that one of the two has
abbrev pub joined : (ℕ → Bool) → (ℕ → Bool) → ℕ → Bool
joined all own c = all c || own c

module _ (all own : ℕ → Bool) where
  pub beyond_with : (c : ℕ) → is_beyond all own c ≡ true → is_beyond all (joined all own) c ≡ true
  beyond_with c is = beside_beyond (all c) (own c) ∙ is

  pub beyond_beside : (c : ℕ) → is_beyond all (joined all own) c ≡ true → is_beyond all own c ≡ true
  beyond_beside c is = sym (beside_beyond (all c) (own c)) ∙ is

  pub next_with : (from at : ℕ) → IsNextIn (is_beyond all own) from at → IsNextIn (is_beyond all (joined all own)) from at
  next_with from at next = grind (arith, beyond_with, beside_beyond)

  pub none_with : (from : ℕ) → HasNoneFrom (is_beyond all own) from → HasNoneFrom (is_beyond all (joined all own)) from
  none_with from none c low = beside_beyond (all c) (own c) ∙ none c low

  pub row_with : (first last : ℕ) → ((c : ℕ) → first ≤ c → c ≤ last → own c ≡ true) → (c : ℕ) → first ≤ c → c ≤ last → joined all own c ≡ true
  row_with first last row c from to = or_second (all c) (own c) (row c from to)

  -- and no more holes than what the item has beside
  pub walked_few : (holes : List Hole) (upto : ℕ) (column : Extent) → IsColumn column → ((c : ℕ) → column_has column c ≡ own c) → (joined all own) 0 ≡ false → Walked all (joined all own) holes upto → HasNoneFrom (is_beyond all own) (upto + 1) → IsColumn (record { upto = upto; holes = holes })
  walked_few holes upto column mine has zero_out w none =
      let few : length holes ≤ length column.holes =
      fewest all (joined all own) (column_has (record { upto = upto; holes = holes })) own
      (walked_end all (joined all own) holes upto w zero_out (none_with (upto + 1) none))
      (λ c is lacks. sym (or_out (all c) (own c) lacks) ∙ is)
      (λ c is. or_second (all c) (own c) is)
      (record { upto = upto; holes = holes }) column w.rising mine.apart (λ c. refl) has in
      let most = mine.few in
      let range = w.in_range in
      record { apart = w.rising; in_range = omega arith; few = omega arith }
    where
      or_out : (a o : Bool) → a ≡ false → (a || o) ≡ o
      or_out a o out = rw out refl

-- ---- all authors

-- the columns of the authors below the id have what is told of them, and there are no others
pub record ToldTo (all own : Versions) (columns : List AuthorColumn) (id : ℕ) : Type 0 where
  pub vector : IsVectorFrom 0 columns
  pub lower : All (λ x. x.author < id) columns
  pub means : (q c : ℕ) → q < id → (column_has (column_of columns q) c ≡ true) ↔ IsToldOfAuthor all own q c
  pub rest : (q c : ℕ) → id ≤ q → column_has (column_of columns q) c ≡ false

-- nothing is told of an author of whom the item has nothing beside
nothing_told : (all mine : Versions) (q : ℕ) → ((c : ℕ) → of_author mine q c ≡ false) → (c : ℕ) → IsToldOfAuthor all (both all mine) q c → ⊥
nothing_told all mine q h c told = grind (arith, false≢true, beyond_parts, beyond_beside)

none_in : (column : Extent) → column.upto ≤ 0 → (c : ℕ) → column_has column c ≡ false
none_in column h c = grind (arith, column_has-above)

module _ (all mine : Versions) (columns : List AuthorColumn) (id author : ℕ) (column : Extent) (w : ToldTo all (both all mine) columns id) (next : IsNextAuthor mine id author) (told : (c : ℕ) → (column_has column c ≡ true) ↔ IsToldOfAuthor all (both all mine) author c) where
  abbrev own : Versions
  own = both all mine

  before : (q c : ℕ) → q < author + 1 → (author ≡ q → ⊥) → (column_has (column_of columns q) c ≡ true) ↔ IsToldOfAuthor all own q c
  before q c below other = elim (cases_lt q id) [
    | inl lower ↦ w.means q c lower
    | inr from ↦ out_iff (column_has (column_of columns q) c) (IsToldOfAuthor all own q c) (w.rest q c from) (nothing_told all mine q (next.between q from (omega arith)) c)
  ]

  lower_then : All (λ x. x.author < author + 1) columns
  lower_then = λ k d within. let low = w.lower k d within in let above = next.above in omega arith

  abbrev new : AuthorColumn
  new = record { author = author; column = column }

  -- behind all others
  whole : (xs : List AuthorColumn) (n : ℕ) → n ≡ length xs → take n xs ++ new ∷ drop n xs ≡ xs ++ new ∷ []
  whole [] zero e = refl
  whole [] (suc n) e = absurd (omega arith)
  whole (x ∷ xs) zero e = absurd (omega arith)
  whole (x ∷ xs) (suc n) e = ap (λ (ys : List AuthorColumn). x ∷ ys) (whole xs n (omega arith))

  pushed : with_column new columns ≡ columns ++ new ∷ []
  pushed =
      let above = next.above in
      with_column-insert new columns (length columns) (λ k d within. let low = w.lower k d within in omega arith) (λ d within. absurd (omega arith)) (omega arith)
      ∙ whole columns (length columns) refl

  of_pushed : (q c : ℕ) → column_has (column_of (columns ++ new ∷ []) q) c ≡ column_has (cond (author == q) column (column_of columns q)) c
  of_pushed q c = ap (λ (xs : List AuthorColumn). column_has (column_of xs q) c) (sym pushed) ∙ ap (λ (x : Extent). column_has x c) (column_of-with_column new columns q)

  of_other : (q c : ℕ) → (author ≡ q → ⊥) → column_has (column_of (columns ++ new ∷ []) q) c ≡ column_has (column_of columns q) c
  of_other q c other = of_pushed q c ∙ ap (λ (b : Bool). column_has (cond b column (column_of columns q)) c) (ne_eqb author q other)

  of_this : (q c : ℕ) → author ≡ q → column_has (column_of (columns ++ new ∷ []) q) c ≡ column_has column c
  of_this q c same = of_pushed q c ∙ ap (λ (b : Bool). column_has (cond b column (column_of columns q)) c) (eq-eqb author q same)

  pub told_push : IsColumn column → 0 < column.upto → ToldTo all own (columns ++ new ∷ []) (author + 1)
  told_push normal some = record {
    vector = subst (IsVectorFrom 0) pushed (IsVectorFrom-with_column 0 new columns w.vector (omega arith) (omega arith) normal next.author_in);
    lower = All-push (λ x. x.author < author + 1) columns new lower_then (omega arith);
    means = λ q c below. elim (cases_eq author q) [
      | inl same ↦ iff_from (column_has (column_of (columns ++ new ∷ []) q) c) (column_has column c) (IsToldOfAuthor all own q c) (of_this q c same) (subst (λ (a : ℕ). (column_has column c ≡ true) ↔ IsToldOfAuthor all own a c) same (told c))
      | inr other ↦ iff_from (column_has (column_of (columns ++ new ∷ []) q) c) (column_has (column_of columns q) c) (IsToldOfAuthor all own q c) (of_other q c other) (before q c below other)
    ];
    rest = λ q c from. let above = next.above in of_other q c (λ same. omega arith) ∙ w.rest q c (omega arith);
  }

  pub told_skip : column.upto ≤ 0 → ToldTo all own columns (author + 1)
  told_skip none = record {
    vector = w.vector;
    lower = lower_then;
    means = λ q c below. elim (cases_eq author q) [
      | inl same ↦ let above = next.above in out_iff (column_has (column_of columns q) c) (IsToldOfAuthor all own q c) (w.rest q c (omega arith)) (λ is. false≢true (sym (none_in column none c) ∙ (told c).1 (subst (λ (a : ℕ). IsToldOfAuthor all own a c) (sym same) is)))
      | inr other ↦ before q c below other
    ];
    rest = λ q c from. let above = next.above in w.rest q c (omega arith);
  }

-- once no author is left, the columns have all that is told
pub told_whole : (all mine : Versions) (columns : List AuthorColumn) (id : ℕ) → ToldTo all (both all mine) columns id → HasNoAuthorFrom mine id → AreTold all (both all mine) (vector_has columns)
told_whole all mine columns id w none v = elim (cases_lt v.author id) [
  | inl below ↦ w.means v.author v.counter below
  | inr from ↦ out_iff (vector_has columns v) (IsToldOfAuthor all (both all mine) v.author v.counter) (w.rest v.author v.counter from) (nothing_told all mine v.author (none v.author from) v.counter)
]
