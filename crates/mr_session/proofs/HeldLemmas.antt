-- What one version more, or one vector more, makes of the vectors that cut a list.
use Rattle.std.proofs.Common.{◌≡◌, ◌≤◌, ◌<◌, ◌+◌, ℕ, zero, suc, Bool, false, ◌||◌, List, [], ◌∷◌, ◌++◌, map, length, get_or, drop, append_assoc, append-nil, drop-cons, length-append, refl, sym, ap, subst, ◌∙◌, inl, inr, arith}
use Rattle.mr_session.proofs.Names.{AreCut, AuthorColumn, FitOneByOne, HasJust, HasTooManyHoles, IsAsLongAsCanBe, IsSame, IsVectorFrom, IsVectorOf, Name, Rev}
use Rattle.mr_session.proofs.Names.{cases_lt, few-vector, is_listed, list_any-append, name_eq, take-append-le, take_all, vector_has, version_of, with_version}
use Rattle.mr_forms.proofs.SetLemmas.{or_comm, or_nothing, name_eq-symmetric}

-- a version more of a list is one more of its set
pub listed_more : (front : List Name) (v w : Name) → is_listed (front ++ v ∷ []) w ≡ (name_eq v w || is_listed front w)
listed_more front v w = grind (arith, list_any-append, or_nothing, name_eq-symmetric, or_comm)

-- what has just the versions of a list has few holes
few_holes : (versions : List Name) (vector : List AuthorColumn) → IsVectorOf (is_listed versions) vector → ¬ HasTooManyHoles (is_listed versions)
few_holes versions vector is many = few-vector vector (is_listed versions) is.columns_ok is.has many

-- an empty vector has just no versions
pub has_none : (vector : List AuthorColumn) → IsSame (vector_has vector) (λ v. false) → IsVectorFrom 0 vector → HasJust [] vector
has_none vector none columns =
    let is : IsVectorOf (is_listed []) vector = record { columns_ok = columns; has = none } in
    record { vector_of = is; one_by_one = λ n many. few_holes [] vector is (subst (λ (l : List Name). HasTooManyHoles (is_listed l)) (take_all n [] (omega arith)) many) }

-- versions that fit one by one, and one more, which fits behind them all
fit_more : (front : List Name) (v : Name) → FitOneByOne front → ¬ HasTooManyHoles (is_listed (front ++ v ∷ [])) → FitOneByOne (front ++ v ∷ [])
fit_more front v fit few n many =
    elim (cases_lt (length front) n) [
      | inl more ↦ few (subst (λ (l : List Name). HasTooManyHoles (is_listed l)) (take_all n (front ++ v ∷ []) (let len = length-append front (v ∷ []) in omega arith)) many)
      | inr less ↦ fit n (subst (λ (l : List Name). HasTooManyHoles (is_listed l)) (take-append-le n front (v ∷ []) less) many)
    ]

-- a vector with a version more
pub has_more : (front : List Name) (v : Name) (old new : List AuthorColumn) → HasJust front old → IsSame (vector_has new) (with_version (vector_has old) v) → IsVectorFrom 0 new → HasJust (front ++ v ∷ []) new
has_more front v old new has more columns =
    let is : IsVectorOf (is_listed (front ++ v ∷ [])) new = record { columns_ok = columns; has = λ w. more w ∙ (ap (λ (b : Bool). name_eq v w || b) (has.vector_of.has w) ∙ sym (listed_more front v w)) } in
    record { vector_of = is; one_by_one = fit_more front v has.one_by_one (few_holes (front ++ v ∷ []) new is) }

-- a vector of one version, where no version fits
pub has_one : (v : Name) (new : List AuthorColumn) → ¬ HasTooManyHoles (is_listed []) → IsVectorOf (is_listed (v ∷ [])) new → HasJust (v ∷ []) new
has_one v new few is = record {
  vector_of = is;
  one_by_one = fit_more [] v (λ n many. few (subst (λ (l : List Name). HasTooManyHoles (is_listed l)) (take_all n [] (omega arith)) many)) (few_holes (v ∷ []) new is);
}

-- a vector that has no room for a version more
pub is_full_at : (front : List Name) (v : Name) (old : List AuthorColumn) → HasJust front old → HasTooManyHoles (with_version (vector_has old) v) → IsAsLongAsCanBe front v
is_full_at front v old has many = grind (arith, listed_more)

-- a full vector, and those that cut what follows
pub cut_behind : (front back : List Name) (next : Name) (v : List AuthorColumn) (vs : List (List AuthorColumn)) → HasJust front v → IsAsLongAsCanBe front next → AreCut (next ∷ back) vs → AreCut (front ++ next ∷ back) (v ∷ vs)
cut_behind front back next v vs has full cut = grind arith

-- what cuts the front part and the rest cuts, behind the vectors that are done, the whole
abbrev pub Extends : (whole front rest : List Name) → (done : List (List AuthorColumn)) → Type 0
Extends whole front rest done = (vs : List (List AuthorColumn)) → AreCut (front ++ rest) vs → AreCut whole (done ++ vs)

module _ (whole front rest : List Name) (v : Name) (done : List (List AuthorColumn)) (vector : List AuthorColumn) where
  pub extends_front : Extends whole front (v ∷ rest) done → Extends whole (front ++ v ∷ []) rest done
  extends_front extends vs cut = extends vs (subst (λ (l : List Name). AreCut l vs) (append_assoc front (v ∷ []) rest) cut)

  pub extends_done : Extends whole front (v ∷ rest) done → HasJust front vector → IsAsLongAsCanBe front v → Extends whole (v ∷ []) rest (done ++ vector ∷ [])
  extends_done extends has full vs cut = grind (arith, append_assoc, cut_behind)

pub extends_whole : (whole front : List Name) (done : List (List AuthorColumn)) (vector : List AuthorColumn) → Extends whole front [] done → HasJust front vector → AreCut whole (done ++ vector ∷ [])
extends_whole whole front done vector extends has = extends (vector ∷ []) (subst (λ (l : List Name). HasJust l vector) (sym (append-nil front)) has)

-- with nothing done yet
pub extends_all : (whole : List Name) (done : List (List AuthorColumn)) → done ≡ [] → Extends whole [] whole done
extends_all whole done none vs cut = rw none cut

-- the versions from a place on
pub versions_from : (rs : List Rev) (k : ℕ) (r : Rev) → k < length rs → r ≡ get_or rs k r → map version_of (drop k rs) ≡ r.version ∷ map version_of (drop (k + 1) rs)
versions_from rs k r within is = grind (arith, drop-cons)

pub none_from : (rs : List Rev) (k : ℕ) → length rs ≤ k → map version_of (drop k rs) ≡ []
none_from [] zero past = refl
none_from [] (suc k) past = refl
none_from (x ∷ rs) zero past = absurd (omega arith)
none_from (x ∷ rs) (suc k) past = none_from rs k (omega arith)

-- one vector more, by another name
pub pushed : (done new : List (List AuthorColumn)) (x y : List AuthorColumn) → new ≡ done ++ x ∷ [] → x ≡ y → new ≡ done ++ y ∷ []
pushed done new x y is same = is ∙ ap (λ (v : List AuthorColumn). done ++ v ∷ []) same
