use Rattle.std.proofs.Common.{inl, inr, ◌⊎◌, ◌≡◌, ◌<◌, ◌≤◌, ◌+◌, ◌==◌, ◌||◌, ℕ, Bool, true, false, cond, refl, ap, sym, subst, ◌∙◌, arith, List, [], ◌∷◌, ◌++◌, length, get_or, take, add-one}
use Rattle.mr_concise.proofs.Names.{AreColumns, AuthorColumn, ColumnCovers, Extent, HasFewHoles, HasManyHoles, HasTooManyHoles, IsColumn, IsColumnOf, IsSame}
use Rattle.mr_concise.proofs.Names.{IsVectorFrom, Name, Run, Versions, both, cases_eq, cases_lt, column_has, column_of, empty_column, eq-eqb, false≢true}
use Rattle.mr_concise.proofs.Names.{in_column, in_run, le-leb, ne_eqb, of_author, or_right, true≢false, vector_has, with_column, with_columns, with_run}
use Rattle.mr_concise.proofs.ColumnLemmas.{column_has-edges}
use Rattle.mr_concise.proofs.VectorLemmas.{column_of-with_column, IsVectorFrom-with_column}
use Rattle.mr_concise.proofs.UnionLemmas.{column_has-empty, column_of-IsColumn, column_of-item, column_of-take_before, column_of-take_more, item-IsColumn, bound-on, with_columns-push, AreColumns-push}
use Rattle.mr_concise.proofs.LastLemmas.{column_has-above}
use Rattle.mr_concise.proofs.MergeLemmas.{has_one}
use Rattle.mr_concise.proofs.SweepLemmas.{few-from_column, few-of_authors, too_many-from_author}

-- The set is what the columns have but for this author.
abbrev pub IsSameElsewhere : List AuthorColumn → Versions → ℕ → Type 0
IsSameElsewhere a set q = (p c : ℕ) → (q ≡ p → ⊥) → of_author set p c ≡ column_has (column_of a p) c

-- the other authors' columns have few holes already
few-from_elsewhere : (a : List AuthorColumn) (set : Versions) (q p : ℕ) → IsVectorFrom 0 a → IsSameElsewhere a set q → (q ≡ p → ⊥) → HasFewHoles (of_author set p)
few-from_elsewhere a set q p v same n = let is = column_of-IsColumn 0 a p v in few-from_column (of_author set p) (column_of a p) (record { apart = is.apart; in_range = is.in_range; means = λ c. sym (same p c n) }) is.few

few-from_one : (a : List AuthorColumn) (set : Versions) (q : ℕ) → IsVectorFrom 0 a → IsSameElsewhere a set q → HasFewHoles (of_author set q) → HasTooManyHoles set → ⊥
few-from_one a set q v same few = few-of_authors set (λ p. elim (cases_eq q p) [
  | inl e ↦ rw (← e) few
  | inr n ↦ few-from_elsewhere a set q p v same n
])

-- with the author's column of the set in its place the columns have the set
placed-means : (a : List AuthorColumn) (set : Versions) (q : ℕ) (column : Extent) → IsSameElsewhere a set q → IsColumnOf (of_author set q) column → IsSame (vector_has (with_column (record { author = q; column = column }) a)) set
placed-means a set q column same is v = grind (arith, column_of-with_column, cases_eq, eq-eqb, ne_eqb)

-- a column of something is not empty
some-upto : (has : ℕ → Bool) (column : Extent) (c : ℕ) → IsColumnOf has column → 1 ≤ c → has c ≡ true → 1 ≤ column.upto
some-upto has column c is from there = grind (arith, cases_lt, true≢false, column_has-above)

-- THE RUN: what a run changes

-- the run and the author's column, as a source has them and as the vector has them
run_and_column : (a : List AuthorColumn) (run : Run) → of_author (both (in_run run) (in_column run.author (column_of a run.author))) run.author ≡ of_author (with_run (vector_has a) run) run.author
run_and_column a run = let h : (c : ℕ) → of_author (both (in_run run) (in_column run.author (column_of a run.author))) run.author c ≡ of_author (with_run (vector_has a) run) run.author c = λ c. rw (eq-eqb run.author run.author refl) refl in λ i c. h c i

run-elsewhere : (a : List AuthorColumn) (run : Run) → IsSameElsewhere a (with_run (vector_has a) run) run.author
run-elsewhere a run p c n = rw (ne_eqb p run.author (λ e. n (sym e))) refl

run-placed : (a : List AuthorColumn) (run : Run) (column : Extent) → IsVectorFrom 0 a → run.author < 64 → IsColumn column → IsColumnOf (of_author (with_run (vector_has a) run) run.author) column → IsVectorFrom 0 (with_column (record { author = run.author; column = column }) a)
run-placed a run column v author is means = IsVectorFrom-with_column 0 (record { author = run.author; column = column }) a v (omega arith) (some-upto (of_author (with_run (vector_has a) run) run.author) column run.first means run.from_one there) is author
  where
    there : of_author (with_run (vector_has a) run) run.author run.first ≡ true
    there = let o = run.ordered in rw (eq-eqb run.author run.author refl, le-leb run.first run.first (omega arith), le-leb run.first run.last o) refl

pub many-run : (a : List AuthorColumn) (run : Run) → run.author < 64 → HasManyHoles (of_author (both (in_run run) (in_column run.author (column_of a run.author))) run.author) → HasTooManyHoles (with_run (vector_has a) run)
many-run a run author many = too_many-from_author (with_run (vector_has a) run) run.author author (subst (λ (s : ℕ → Bool). HasManyHoles s) (run_and_column a run) many)

pub few-run : (a : List AuthorColumn) (run : Run) → IsVectorFrom 0 a → HasFewHoles (of_author (both (in_run run) (in_column run.author (column_of a run.author))) run.author) → HasTooManyHoles (with_run (vector_has a) run) → ⊥
few-run a run v few = few-from_one a (with_run (vector_has a) run) run.author v (run-elsewhere a run) (subst (λ (s : ℕ → Bool). HasFewHoles s) (run_and_column a run) few)

-- the column of a run and what the author had, in its place
pub run-united : (a new : List AuthorColumn) (run : Run) (column : Extent) → IsVectorFrom 0 a → run.author < 64 → IsColumn column → IsColumnOf (of_author (both (in_run run) (in_column run.author (column_of a run.author))) run.author) column → new ≡ with_column (record { author = run.author; column = column }) a → IsVectorFrom 0 new × IsSame (vector_has new) (with_run (vector_has a) run)
run-united a new run column v author is of e =
    let means : IsColumnOf (of_author (with_run (vector_has a) run) run.author) column = subst (λ (s : ℕ → Bool). IsColumnOf s column) (run_and_column a run) of in
    rw e (run-placed a run column v author is means, placed-means a (with_run (vector_has a) run) run.author column (run-elsewhere a run) means)

-- COLUMNS: what those of another vector change

-- two columns of an author, as a source has them and as the vectors have them
both_columns-of : (a b : List AuthorColumn) (k : ℕ) (x : AuthorColumn) → IsVectorFrom 0 b → k < length b → x ≡ get_or b k x → of_author (both (in_column x.author (column_of a x.author)) (in_column x.author x.column)) x.author ≡ of_author (both (vector_has a) (vector_has b)) x.author
both_columns-of a b k x vb l at = let h : (c : ℕ) → of_author (both (in_column x.author (column_of a x.author)) (in_column x.author x.column)) x.author c ≡ of_author (both (vector_has a) (vector_has b)) x.author c = λ c. rw (eq-eqb x.author x.author refl) (ap (λ (e : Extent). column_has (column_of a x.author) c || column_has e c) (sym (column_of-item 0 b k x vb l at))) in λ i c. h c i

or-false : (s : Bool) → (s || false) ≡ s
or-false s = grind arith

nothing-more : (a : List AuthorColumn) (q c : ℕ) → (column_has (column_of a q) c || column_has empty_column c) ≡ column_has (column_of a q) c
nothing-more a q c = rw (column_has-empty c) (or-false (column_has (column_of a q) c))

-- no author's column has too many holes, of those of b so far
abbrev pub HaveFew : List AuthorColumn → List AuthorColumn → Type 0
HaveFew a b = (q : ℕ) → HasFewHoles (of_author (both (vector_has a) (vector_has b)) q)

pub HaveFew-begin : (a : List AuthorColumn) → IsVectorFrom 0 a → HaveFew a []
HaveFew-begin a v q = let is = column_of-IsColumn 0 a q v in few-from_column (of_author (both (vector_has a) (vector_has [])) q) (column_of a q) (record { apart = is.apart; in_range = is.in_range; means = λ c. sym (nothing-more a q c) }) is.few

few-same : (s t : ℕ → Bool) → ((c : ℕ) → s c ≡ t c) → HasFewHoles s → HasFewHoles t
few-same s t h few column is = few column (record { apart = is.apart; in_range = is.in_range; means = λ c. is.means c ∙ sym (h c) })

pub HaveFew-more : (a b : List AuthorColumn) (k : ℕ) (x : AuthorColumn) → IsVectorFrom 0 b → k < length b → x ≡ get_or b k x → HaveFew a (take k b) → HasFewHoles (of_author (both (in_column x.author (column_of a x.author)) (in_column x.author x.column)) x.author) → HaveFew a (take (k + 1) b)
HaveFew-more a b k x vb l at few one q = elim (cases_eq x.author q) [
  | inl e ↦ few-same (of_author (both (in_column x.author (column_of a x.author)) (in_column x.author x.column)) x.author) (of_author (both (vector_has a) (vector_has (take (k + 1) b))) q) (λ c. rw (add-one k, column_of-take_more 0 b k x q vb l, ← at, eq-eqb x.author q e, ← e, eq-eqb x.author x.author refl) refl) one
  | inr n ↦ few-same (of_author (both (vector_has a) (vector_has (take k b))) q) (of_author (both (vector_has a) (vector_has (take (k + 1) b))) q) (λ c. rw (add-one k, column_of-take_more 0 b k x q vb l, ← at, ne_eqb x.author q n) refl) (few q)
]

-- what a source of both columns finds is so of the vectors
pub many-both : (a b : List AuthorColumn) (k : ℕ) (x : AuthorColumn) → IsVectorFrom 0 b → k < length b → x ≡ get_or b k x → HasManyHoles (of_author (both (in_column x.author (column_of a x.author)) (in_column x.author x.column)) x.author) → HasTooManyHoles (both (vector_has a) (vector_has b))
many-both a b k x vb l at many = too_many-from_author (both (vector_has a) (vector_has b)) x.author (item-IsColumn 0 b k x vb l at).2 (subst (λ (s : ℕ → Bool). HasManyHoles s) (both_columns-of a b k x vb l at) many)

-- How far the columns of b are put to those of a.
pub record ChangedTo (a b : List AuthorColumn) (k : ℕ) (changed : List AuthorColumn) : Type 0 where
  pub columns : AreColumns changed
  pub vector : IsVectorFrom 0 (with_columns changed a)
  pub united : IsSame (vector_has (with_columns changed a)) (both (vector_has a) (vector_has (take k b)))

pub ChangedTo-begin : (a b changed : List AuthorColumn) → IsVectorFrom 0 a → changed ≡ [] → ChangedTo a b 0 changed
ChangedTo-begin a b changed v e = rw e (record { columns = λ k d l. absurd (omega arith); vector = v; united = λ v. sym (nothing-more a v.author v.counter) })

-- one column of b more
united-step : (a b : List AuthorColumn) (k : ℕ) (x : AuthorColumn) (v : Name) → IsVectorFrom 0 b → k < length b → x ≡ get_or b k x → both (vector_has a) (vector_has (take (k + 1) b)) v ≡ (column_has (column_of a v.author) v.counter || column_has (cond (x.author == v.author) x.column (column_of (take k b) v.author)) v.counter)
united-step a b k x v vb l at = rw (add-one k, column_of-take_more 0 b k x v.author vb l, ← at) refl

pub ChangedTo-push : (a b changed : List AuthorColumn) (k : ℕ) (x : AuthorColumn) (column : Extent) → IsVectorFrom 0 b → k < length b → x ≡ get_or b k x → ChangedTo a b k changed → IsColumn column → IsColumnOf (has_one (column_of a x.author) x.column) column → ChangedTo a b (k + 1) (changed ++ (record { author = x.author; column = column }) ∷ [])
ChangedTo-push a b changed k x column vb l at w is of = record {
  columns = AreColumns-push changed new w.columns some is item.2;
  vector = rw (with_columns-push changed new a) (IsVectorFrom-with_column 0 new (with_columns changed a) w.vector (omega arith) some is item.2);
  united = λ v. rw (with_columns-push changed new a, column_of-with_column new (with_columns changed a) v.author) (go v (cases_eq x.author v.author) ∙ sym (united-step a b k x v vb l at));
}
  where
    new : AuthorColumn
    new = record { author = x.author; column = column }

    item : IsColumn x.column × (1 ≤ x.column.upto) × (x.author < 64)
    item = item-IsColumn 0 b k x vb l at

    means : (c : ℕ) → column_has column c ≡ (column_has (column_of a x.author) c || column_has x.column c)
    means c = of.means c

    some : 1 ≤ column.upto
    some =
        let on : column_has x.column x.column.upto ≡ true = column_has-edges x.column x.column.upto item.0.apart item.1 ∙ bound-on 0 x.column.upto x.column.holes item.0.apart in
        some-upto (has_one (column_of a x.author) x.column) column x.column.upto of item.1 (sym (of.means x.column.upto) ∙ means x.column.upto ∙ or_right (column_has (column_of a x.author) x.column.upto) (column_has x.column x.column.upto) on)

    go : (v : Name) → (x.author ≡ v.author) ⊎ (x.author ≡ v.author → ⊥) → column_has (cond (x.author == v.author) column (column_of (with_columns changed a) v.author)) v.counter ≡ (column_has (column_of a v.author) v.counter || column_has (cond (x.author == v.author) x.column (column_of (take k b) v.author)) v.counter)
    go v (inl e) = rw (eq-eqb x.author v.author e, ← e) (means v.counter)
    go v (inr n) = rw (ne_eqb x.author v.author n) (w.united v)

-- a column that its author's column covers changes nothing
pub ChangedTo-skip : (a b changed : List AuthorColumn) (k : ℕ) (x : AuthorColumn) → IsVectorFrom 0 b → k < length b → x ≡ get_or b k x → ChangedTo a b k changed → ColumnCovers (column_of a x.author) x.column → ChangedTo a b (k + 1) changed
ChangedTo-skip a b changed k x vb l at w covers = record {
  columns = w.columns;
  vector = w.vector;
  united = λ v. w.united v ∙ go v (cases_eq x.author v.author) ∙ sym (united-step a b k x v vb l at);
}
  where
    nothing : column_of (take k b) x.author ≡ empty_column
    nothing = rw (← at) at (column_of-take_before 0 b k x vb l)

    under : (s t : Bool) → (t ≡ true → s ≡ true) → s ≡ (s || t)
    under true t h = refl
    under false true h = absurd (false≢true (h refl))
    under false false h = refl

    go : (v : Name) → (x.author ≡ v.author) ⊎ (x.author ≡ v.author → ⊥) → (column_has (column_of a v.author) v.counter || column_has (column_of (take k b) v.author) v.counter) ≡ (column_has (column_of a v.author) v.counter || column_has (cond (x.author == v.author) x.column (column_of (take k b) v.author)) v.counter)
    go v (inl e) = rw (eq-eqb x.author v.author e, ← e, nothing) (nothing-more a x.author v.counter ∙ under (column_has (column_of a x.author) v.counter) (column_has x.column v.counter) (covers v.counter))
    go v (inr n) = rw (ne_eqb x.author v.author n) refl
