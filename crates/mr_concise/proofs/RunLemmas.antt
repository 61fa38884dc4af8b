use Rattle.std.proofs.Common.{inl, inr, ◌⊎◌, ◌≡◌, ◌<◌, ◌≤◌, ◌+◌, ◌-◌, ◌==◌, ◌&&◌, ◌||◌, ℕ, Bool, true, false, nat_le, nat_lt, refl, ap, sym, ◌∙◌, arith, List, [], ◌∷◌, ◌++◌, length, get_or, drop, All, suc, zero, length-append, take, add-one, cond}
use Rattle.std.specs.List.{AllPairs}
use Rattle.mr_concise.proofs.Names.{AuthorColumn, Extent, Hole, IsColumn, IsRising, IsVectorFrom, Name, Run, StandsBefore, cases_eq, cases_lt, column_has}
use Rattle.mr_concise.proofs.Names.{column_of, common_steps, eq-eqb, get_or-append_seam, get_or_append_left, hole_edges, in_run, in_runs, is_on, le-leb}
use Rattle.mr_concise.proofs.Names.{list_any-append, lt-leb, nat_tests, ne_eqb, vector_has}
use Rattle.mr_concise.proofs.EdgeLemmas.{is_on-turn, is_on-stay, IsRising-end, IsRising-lower}
use Rattle.mr_concise.specs.inner.Runs.{EndBefore, AddsRuns}
use Rattle.mr_concise.proofs.UnionLemmas.{column_of-under, column_of-take_more, column_of-take_before, column_has-empty}
use Rattle.mr_concise.proofs.ColumnLemmas.{column_has-edges, column_has-zero}

-- How far the runs of a column have come: those below `start` are put, and the holes that are left
-- say what the column has from there on.
pub record RunsTo (author : ℕ) (column : Extent) (old new : List Run) (start : ℕ) (rest : List Hole) : Type 0 where
  pub from_one : 1 ≤ start
  pub bound : start ≤ column.upto
  pub rising : IsRising (start - 1) (hole_edges rest ++ (column.upto + 1) ∷ [])
  pub later : (c : ℕ) → start ≤ c → column_has column c ≡ is_on true (hole_edges rest ++ (column.upto + 1) ∷ []) c
  pub have : (v : Name) → in_runs new v ≡ (in_runs old v || ((v.author == author) && (nat_lt v.counter start && column_has column v.counter)))
  pub apart : AllPairs StandsBefore old → AllPairs StandsBefore new
  pub ended : EndBefore author start new

All-push : (P : Run → Type 0) (xs : List Run) (x : Run) → All P xs → P x → All P (xs ++ x ∷ [])
All-push P xs x h p k d l = elim (cases_lt k (length xs)) [
  | inl a ↦ rw (get_or_append_left xs (x ∷ []) d k a) (h k d a)
  | inr b ↦ let at : k ≡ length xs = let e = length-append xs (x ∷ []) in omega arith in rw (at, get_or-append_seam xs x [] d) p
]

pairs-push : (R : Run → Run → Type 0) (xs : List Run) (x : Run) → AllPairs R xs → All (λ r. R r x) xs → AllPairs R (xs ++ x ∷ [])
pairs-push R xs x h a i j d l m =
    let e = length-append xs (x ∷ []) in
    let i_in : i < length xs = omega arith in
    elim (cases_lt j (length xs)) [
      | inl b ↦ rw (get_or_append_left xs (x ∷ []) d i i_in, get_or_append_left xs (x ∷ []) d j b) (h i j d l b)
      | inr b ↦ let at : j ≡ length xs = omega arith in rw (get_or_append_left xs (x ∷ []) d i i_in, at, get_or-append_seam xs x [] d) (a i d i_in)
    ]

-- one run more
in_runs-push : (runs : List Run) (x : Run) (v : Name) → in_runs (runs ++ x ∷ []) v ≡ (in_runs runs v || (in_run x v || false))
in_runs-push runs x v = list_any-append (λ run. in_run run v) runs (x ∷ [])

bool-run : (o b h : Bool) (c start first last : ℕ) → start < first → first ≤ last → (start ≤ c → c < first → h ≡ true) → (first ≤ c → c ≤ last → h ≡ false) → ((o || (b && (nat_lt c start && h))) || ((b && (nat_le start c && nat_le c (first - 1))) || false)) ≡ (o || (b && (nat_lt c (last + 1) && h)))
bool-run o b h c start first last l m before inside = grind (arith, nat_tests)

bool-skip : (o b h : Bool) (c start first last : ℕ) → start ≡ first → first ≤ last → (first ≤ c → c ≤ last → h ≡ false) → (o || (b && (nat_lt c start && h))) ≡ (o || (b && (nat_lt c (last + 1) && h)))
bool-skip o b h c start first last e m inside = grind (arith, nat_tests)

bool-last : (o b h : Bool) (c start upto : ℕ) → (start ≤ c → h ≡ nat_le c upto) → ((o || (b && (nat_lt c start && h))) || ((b && (nat_le start c && nat_le c upto)) || false)) ≡ (o || (b && h))
bool-last o b h c start upto later = grind (arith, nat_tests)

bool-none : (o b h : Bool) (c : ℕ) → (c ≡ 0 → h ≡ false) → o ≡ (o || (b && (nat_lt c 1 && h)))
bool-none o b h c at_zero = grind (arith, nat_tests)

pub runs-begin : (author : ℕ) (column : Extent) (old : List Run) → IsColumn column → 1 ≤ column.upto → EndBefore author 1 old → RunsTo author column old old 1 column.holes
runs-begin author column old is some ended = grind (arith, column_has-edges, bool-none, column_has-zero)

-- what is known of the next hole
pub record NextHole (column : Extent) (start : ℕ) (hole : Hole) (rest : List Hole) : Type 0 where
  pub from : start ≤ hole.first
  pub ordered : hole.first ≤ hole.last
  pub bound : hole.last + 1 ≤ column.upto
  rising : IsRising (hole.last + 1 - 1) (hole_edges rest ++ (column.upto + 1) ∷ [])
  before : (c : ℕ) → start ≤ c → c < hole.first → column_has column c ≡ true
  inside : (c : ℕ) → hole.first ≤ c → c ≤ hole.last → column_has column c ≡ false
  later : (c : ℕ) → hole.last + 1 ≤ c → column_has column c ≡ is_on true (hole_edges rest ++ (column.upto + 1) ∷ []) c

pub next_hole : (author : ℕ) (column : Extent) (old new : List Run) (start : ℕ) (hole : Hole) (rest : List Hole) → RunsTo author column old new start (hole ∷ rest) → NextHole column start hole rest
next_hole author column old new start hole rest w = grind (arith, IsRising-end, IsRising-lower, is_on-stay, is_on-turn)

EndBefore-later : (author start next : ℕ) (runs : List Run) → start ≤ next → EndBefore author start runs → EndBefore author next runs
EndBefore-later author start next runs l h k d m = grind arith

stand-before : (author start : ℕ) (runs : List Run) (x : Run) → x.author ≡ author → x.first ≡ start → EndBefore author start runs → All (λ r. StandsBefore r x) runs
stand-before author start runs x a s h k d m = grind arith

-- a run, and then a hole
pub runs-run : (author : ℕ) (column : Extent) (old new : List Run) (start : ℕ) (hole : Hole) (rest : List Hole) (x : Run) → RunsTo author column old new start (hole ∷ rest) → start < hole.first → x.author ≡ author → x.first ≡ start → x.last ≡ hole.first - 1 → RunsTo author column old (new ++ x ∷ []) (hole.last + 1) rest
runs-run author column old new start hole rest x w lt a f l =
    let n = next_hole author column old new start hole rest w in
    let order = n.ordered in
    record {
      from_one = omega arith;
      bound = n.bound;
      rising = n.rising;
      later = n.later;
      have = λ v. in_runs-push new x v ∙ rw (w.have v, a, f, l) (bool-run (in_runs old v) (v.author == author) (column_has column v.counter) v.counter start hole.first hole.last lt n.ordered (n.before v.counter) (n.inside v.counter));
      apart = λ h. pairs-push StandsBefore new x (w.apart h) (stand-before author start new x a f w.ended);
      ended = All-push (λ run. (run.author < author) ⊎ ((run.author ≡ author) × (run.last + 1 < hole.last + 1))) new x (EndBefore-later author start (hole.last + 1) new (let q = n.from in omega arith) w.ended) (inr (a, omega arith));
    }

-- a hole at the start
pub runs-skip : (author : ℕ) (column : Extent) (old new : List Run) (start : ℕ) (hole : Hole) (rest : List Hole) → RunsTo author column old new start (hole ∷ rest) → hole.first ≤ start → RunsTo author column old new (hole.last + 1) rest
runs-skip author column old new start hole rest w ge =
    let n = next_hole author column old new start hole rest w in
    let order = n.ordered in
    let from = n.from in
    record {
      from_one = omega arith;
      bound = n.bound;
      rising = n.rising;
      later = n.later;
      have = λ v. w.have v ∙ bool-skip (in_runs old v) (v.author == author) (column_has column v.counter) v.counter start hole.first hole.last (omega arith) n.ordered (n.inside v.counter);
      apart = w.apart;
      ended = EndBefore-later author start (hole.last + 1) new (omega arith) w.ended;
    }

-- the last run
pub runs-end : (author : ℕ) (column : Extent) (old new : List Run) (start : ℕ) (x : Run) → RunsTo author column old new start [] → x.author ≡ author → x.first ≡ start → x.last ≡ column.upto → AddsRuns author column old (new ++ x ∷ [])
runs-end author column old new start x w a f l = record {
  have = λ v. in_runs-push new x v ∙ rw (w.have v, a, f, l) (bool-last (in_runs old v) (v.author == author) (column_has column v.counter) v.counter start column.upto (λ g. w.later v.counter g ∙ at_bound v.counter));
  apart = λ h. pairs-push StandsBefore new x (w.apart h) (stand-before author start new x a f w.ended);
  ended = All-push (λ run. (run.author < author + 1) ⊎ ((run.author ≡ author + 1) × (run.last + 1 < 1))) new x (λ k d m. elim (w.ended k d m) [ inl b ↦ inl (omega arith) | inr b ↦ let q = b.0 in inl (omega arith) ]) (inl (omega arith));
}
  where
    at_bound : (c : ℕ) → is_on true ((column.upto + 1) ∷ []) c ≡ nat_le c column.upto
    at_bound c = elim (cases_lt c (column.upto + 1)) [
      | inl b ↦ let le : c ≤ column.upto = omega arith in is_on-stay true (column.upto + 1) [] c b ∙ sym (le-leb c column.upto le)
      | inr b ↦ let gt : column.upto < c = omega arith in is_on-turn true (column.upto + 1) [] c b ∙ sym (lt-leb c column.upto gt)
    ]

pub drop-at_end : (k : ℕ) (xs : List Hole) → length xs ≤ k → drop k xs ≡ []
drop-at_end k [] l = grind (arith, common_steps)
drop-at_end zero (x ∷ xs) l = absurd (omega arith)
drop-at_end (suc k) (x ∷ xs) l = drop-at_end k xs (omega arith)

author-next : (low : ℕ) (xs : List AuthorColumn) (k : ℕ) (d e : AuthorColumn) → IsVectorFrom low xs → suc k < length xs → (get_or xs k d).author + 1 ≤ (get_or xs (suc k) e).author
author-next low [] k d e v l = absurd (omega arith)
author-next low (x ∷ xs) zero d e v l = column_of-under (x.author + 1) xs 0 e v.3 (omega arith)
author-next low (x ∷ xs) (suc k) d e v l = author-next (x.author + 1) xs k d e v.3 (omega arith)

-- the runs of the first k columns
pub record RunsOfFirst (columns : List AuthorColumn) (k : ℕ) (runs : List Run) : Type 0 where
  pub have : (v : Name) → in_runs runs v ≡ vector_has (take k columns) v
  pub apart : AllPairs StandsBefore runs
  pub ended : (d : AuthorColumn) → k < length columns → EndBefore (get_or columns k d).author 1 runs

pub RunsOfFirst-none : (columns : List AuthorColumn) → RunsOfFirst columns 0 []
RunsOfFirst-none columns = grind (arith, column_has-empty)

pub RunsOfFirst-more : (columns : List AuthorColumn) (k : ℕ) (x : AuthorColumn) (old new : List Run) → IsVectorFrom 0 columns → k < length columns → x ≡ get_or columns k x → RunsOfFirst columns k old → AddsRuns x.author x.column old new → RunsOfFirst columns (k + 1) new
RunsOfFirst-more columns k x old new v l at w adds = record {
  have = λ name. adds.have name ∙ ap (λ b. b || ((name.author == x.author) && column_has x.column name.counter)) (w.have name) ∙ rw (add-one k, column_of-take_more 0 columns k x name.author v l, ← at) (go name (cases_eq x.author name.author));
  apart = adds.apart w.apart;
  ended = λ d m i e n. elim (adds.ended i e n) [
    | inl b ↦ let next : x.author + 1 ≤ (get_or columns (k + 1) d).author = rw (add-one k) (rw (← at) at (author-next 0 columns k x d v (omega arith))) in inl (omega arith)
    | inr b ↦ let none = b.1 in absurd (omega arith)
  ];
}
  where
    or_right' : (b : Bool) → (false || (true && b)) ≡ b
    or_right' true = refl
    or_right' false = refl

    or_left : (b : Bool) → (b || (false && false)) ≡ b
    or_left true = refl
    or_left false = refl

    none-before : (name : Name) → x.author ≡ name.author → vector_has (take k columns) name ≡ false
    none-before name e = ap (λ (c : Extent). column_has c name.counter) (ap (λ q. column_of (take k columns) q) (sym e ∙ ap (λ (z : AuthorColumn). z.author) at) ∙ column_of-take_before 0 columns k x v l) ∙ column_has-empty name.counter

    go : (name : Name) → (x.author ≡ name.author) ⊎ (x.author ≡ name.author → ⊥) → (vector_has (take k columns) name || ((name.author == x.author) && column_has x.column name.counter)) ≡ column_has (cond (x.author == name.author) x.column (column_of (take k columns) name.author)) name.counter
    go name (inl e) = rw (none-before name e, eq-eqb name.author x.author (sym e), eq-eqb x.author name.author e) (or_right' (column_has x.column name.counter))
    go name (inr n) = rw (ne_eqb name.author x.author (λ h. n (sym h)), ne_eqb x.author name.author n) (or_left (vector_has (take k columns) name))
