use Rattle.std.proofs.Common.{inl, inr, ◌⊎◌, ◌≡◌, ◌<◌, ◌≤◌, ◌+◌, ◌-◌, ◌==◌, ◌&&◌, ◌||◌, ℕ, Bool, true, false, nat_lt, nat_le, refl, ap, sym, ◌∙◌, arith, List, [], ◌∷◌, ◌++◌, length, get_or, set, take, zero, suc, add-one}
use Rattle.mr_concise.proofs.Names.{AllPairs, AuthorColumn, Extent, Hole, IsColumn, IsRising, IsSame, IsVectorFrom, MAX_COUNTER, MAX_HOLES, Name, Run}
use Rattle.mr_concise.proofs.Names.{StandsBefore, and_parts, cases_Bool, cases_lt, column_has, column_of, edges, eq-eqb, eqb-true, false≢true, gap}
use Rattle.mr_concise.proofs.Names.{if◌then◌else◌, in_run, in_runs, is_on, leb-true, list_any_more, lt-leb, lt-ltb, nat_tests, vector_has, with_column}
use Rattle.mr_concise.proofs.Names.{with_run}
use Rattle.mr_concise.proofs.EdgeLemmas.{IsRising-end}
use Rattle.mr_concise.proofs.ColumnLemmas.{column_has-edges}
use Rattle.mr_concise.proofs.InsertLemmas.{to_end, with_counter-means}
use Rattle.mr_concise.proofs.UnionLemmas.{bound-on, column_of-IsColumn}
use Rattle.mr_concise.proofs.VectorLemmas.{column_of-at, set-with_column}
use Rattle.mr_concise.proofs.ChangeLemmas.{run-united}

-- the column with a run that begins above its bound
abbrev pub appended : Extent → ℕ → ℕ → Extent
appended column first last = record { upto = last; holes = column.holes ++ gap (column.upto + 1) (first - 1) }

-- the author's column with the run
abbrev pub with_appended : List AuthorColumn → Run → AuthorColumn
with_appended columns run = record { author = run.author; column = appended (column_of columns run.author) run.first run.last }

bool-end : (c u v : ℕ) → u ≤ v → (if nat_lt c (v + 1) then true else false) ≡ ((nat_lt u c && nat_le c v) || (if nat_lt c (u + 1) then true else false))
bool-end c u v l = grind (arith, nat_tests)

bool-hole : (c first last u v : ℕ) (x y : Bool) → first ≤ last → last ≤ u → y ≡ ((nat_lt u c && nat_le c v) || x) → (if nat_lt c first then true else (if nat_lt c (last + 1) then false else y)) ≡ ((nat_lt u c && nat_le c v) || (if nat_lt c first then true else (if nat_lt c (last + 1) then false else x)))
bool-hole c first last u v x y o l e = grind (arith, nat_tests)

bool-run : (c first last : ℕ) (x : Bool) → first ≤ last → ((nat_lt first c && nat_le c last) || ((c == first) || x)) ≡ ((nat_le first c && nat_le c last) || x)
bool-run c first last x o = grind (arith, nat_tests)

-- a higher bound
raised : (u v : ℕ) (holes : List Hole) (low : ℕ) → u ≤ v → IsRising low (to_end holes (u + 1)) → IsRising low (to_end holes (v + 1)) × ((c : ℕ) → is_on true (to_end holes (v + 1)) c ≡ ((nat_lt u c && nat_le c v) || is_on true (to_end holes (u + 1)) c))
raised u v [] low h r = ((let q = r.0 in omega arith, tt), λ c. bool-end c u v h)
raised u v (hole ∷ holes) low h r = grind (arith, raised u v holes, IsRising-end, bool-hole, to_end)

-- the column with the run has the run and what it had
pub appended-means : (column : Extent) (first last : ℕ) → IsColumn column → column.upto < first → first ≤ last → IsRising 0 (edges (appended column first last)) × ((c : ℕ) → column_has (appended column first last) c ≡ ((nat_le first c && nat_le c last) || column_has column c))
appended-means column first last is above order = (
  higher.0,
  λ c. elim (cases_lt c 1) [
    | inl z ↦ let zero : c ≡ 0 = omega arith in let past : 0 < first = omega arith in rw (zero, lt-leb first 0 past) refl
    | inr o ↦
        column_has-edges (appended column first last) c higher.0 o ∙ higher.1 c
        ∙ ap (λ b. (nat_lt first c && nat_le c last) || b) (sym (column_has-edges (appended column first first) c one.0 o) ∙ one.1 c)
        ∙ bool-run c first last (column_has column c) order
  ],
)
  where
    one : IsRising 0 (edges (appended column first first)) × ((c : ℕ) → column_has (appended column first first) c ≡ ((c == first) || column_has column c))
    one = rw (lt-ltb column.upto first above) at (with_counter-means column first is.apart (omega arith))

    higher : IsRising 0 (edges (appended column first last)) × ((c : ℕ) → is_on true (edges (appended column first last)) c ≡ ((nat_lt first c && nat_le c last) || is_on true (edges (appended column first first)) c))
    higher = raised first last (column.holes ++ gap (column.upto + 1) (first - 1)) 0 order one.0

pub IsColumn-appended : (column : Extent) (first last : ℕ) (holes : List Hole) → IsColumn column → column.upto < first → first ≤ last → last ≤ MAX_COUNTER → holes ≡ column.holes ++ gap (column.upto + 1) (first - 1) → length holes ≤ MAX_HOLES → IsColumn (record { upto = last; holes = holes })
IsColumn-appended column first last holes is above order top e few = rw e (record { apart = (appended-means column first last is above order).0; in_range = top; few = rw e at few })

-- a run put behind what its author's column has
pub run-appended : (a new : List AuthorColumn) (run : Run) → IsVectorFrom 0 a → run.author < 64 → (column_of a run.author).upto < run.first → IsColumn (appended (column_of a run.author) run.first run.last) → new ≡ with_column (record { author = run.author; column = appended (column_of a run.author) run.first run.last }) a → IsVectorFrom 0 new × IsSame (vector_has new) (with_run (vector_has a) run)
run-appended a new run v author above is e =
    let means = appended-means (column_of a run.author) run.first run.last (column_of-IsColumn 0 a run.author v) above run.ordered in
    run-united a new run (appended (column_of a run.author) run.first run.last) v author is (record {
      apart = means.0;
      in_range = is.in_range;
      means = λ c. means.1 c ∙ rw (eq-eqb run.author run.author refl) refl;
    }) e

-- the same, where the author's column is there
pub run-set : (xs : List AuthorColumn) (i : ℕ) (run : Run) (x : AuthorColumn) (new : Extent) → IsVectorFrom 0 xs → run.author < 64 → ((j : ℕ) (d : AuthorColumn) → 0 ≤ j → j < i → nat_lt (get_or xs j d).author run.author ≡ true) → i < length xs → x ≡ get_or xs i x → x.author ≡ run.author → (column_of xs run.author).upto < run.first → new ≡ appended x.column run.first run.last → IsColumn new → IsVectorFrom 0 (set xs i (record { author = x.author; column = new })) × IsSame (vector_has (set xs i (record { author = x.author; column = new }))) (with_run (vector_has xs) run)
run-set xs i run x new v author before l at e above is column =
    let mine : new ≡ appended (column_of xs run.author) run.first run.last = is ∙ ap (λ (c : Extent). appended c run.first run.last) (column_of-at xs i run.author x before l at e) in
    let one : record { author = x.author; column = new } ≡ with_appended xs run = ap (λ (c : Extent). record { author = x.author; column = c }) mine ∙ ap (λ (b : ℕ). record { author = b; column = appended (column_of xs run.author) run.first run.last }) e in
    run-appended xs (set xs i (record { author = x.author; column = new })) run v author above (rw mine at column) (rw one (set-with_column (with_appended xs run) xs i x before l at e))

-- what a run before this one has of the author is below it
earlier : (runs : List Run) (k j : ℕ) (x : Run) (v : Name) → AllPairs StandsBefore runs → k < length runs → x ≡ get_or runs k x → j ≤ k → v.author ≡ x.author → in_runs (take j runs) v ≡ true → v.counter < x.first
earlier runs k zero x v pairs l at le same there = absurd (false≢true there)
earlier runs k (suc j) x v pairs l at le same there = go (cases_Bool (in_run (get_or runs j x) v)) (sym (list_any_more (λ run. in_run run v) runs j x (omega arith)) ∙ rw (add-one j) there) (λ before. earlier runs k j x v pairs l at (omega arith) same before)
  where
    stands : StandsBefore (get_or runs j x) x
    stands = rw (← at) at (pairs j k x (omega arith) l)

    before : StandsBefore (get_or runs j x) x → v.author ≡ (get_or runs j x).author → v.counter ≤ (get_or runs j x).last → v.counter < x.first
    before (inl lower) is le = absurd (omega arith)
    before (inr further) is le = let d = further.1 in omega arith

    go : (in_run (get_or runs j x) v ≡ true) ⊎ (in_run (get_or runs j x) v ≡ false) → (in_runs (take j runs) v || in_run (get_or runs j x) v) ≡ true → (in_runs (take j runs) v ≡ true → v.counter < x.first) → v.counter < x.first
    go (inl mine) either rest =
        let parts = and_parts (v.author == (get_or runs j x).author) _ mine in
        let ends = and_parts (nat_le (get_or runs j x).first v.counter) (nat_le v.counter (get_or runs j x).last) parts.1 in
        before stands (eqb-true v.author (get_or runs j x).author parts.0) (leb-true v.counter (get_or runs j x).last ends.1)
    go (inr other) either rest = rest (or-nothing (in_runs (take j runs) v) (rw other at either))
      where
        or-nothing : (b : Bool) → (b || false) ≡ true → b ≡ true
        or-nothing true e = refl
        or-nothing false e = e

-- the columns of some runs, and the next one of these
pub next-behind : (runs : List Run) (k : ℕ) (x : Run) (columns : List AuthorColumn) → AllPairs StandsBefore runs → k < length runs → x ≡ get_or runs k x → IsVectorFrom 0 columns → IsSame (vector_has columns) (in_runs (take k runs)) → (column_of columns x.author).upto < x.first
next-behind runs k x columns pairs l at v same = elim (cases_lt (column_of columns x.author).upto x.first) [
  | inl below ↦ below
  | inr above ↦
      let one = x.from_one in
      let is = column_of-IsColumn 0 columns x.author v in
      let bound : column_has (column_of columns x.author) (column_of columns x.author).upto ≡ true =
      column_has-edges (column_of columns x.author) (column_of columns x.author).upto is.apart (omega arith) ∙ bound-on 0 (column_of columns x.author).upto (column_of columns x.author).holes is.apart in
      let wrong = earlier runs k k x (record { author = x.author; counter = (column_of columns x.author).upto }) pairs l at (omega arith) refl (sym (same (record { author = x.author; counter = (column_of columns x.author).upto })) ∙ bound) in
      absurd (omega arith)
]

-- one run more
pub next-same : (runs : List Run) (k : ℕ) (x : Run) (old new : List AuthorColumn) → k < length runs → x ≡ get_or runs k x → IsSame (vector_has old) (in_runs (take k runs)) → IsSame (vector_has new) (with_run (vector_has old) x) → IsSame (vector_has new) (in_runs (take (k + 1) runs))
next-same runs k x old new l at before same v =
    same v ∙ ap (λ b. in_run x v || b) (before v) ∙ swap (in_run x v) (in_runs (take k runs) v)
    ∙ ap (λ (r : Run). in_runs (take k runs) v || in_run r v) at ∙ sym (list_any_more (λ run. in_run run v) runs k x l)
  where
    swap : (a b : Bool) → (a || b) ≡ (b || a)
    swap true true = refl
    swap true false = refl
    swap false true = refl
    swap false false = refl
