use Rattle.std.proofs.Common.{◌≡◌, ◌<◌, ◌≤◌, ◌+◌, ◌⊎◌, ◌||◌, ◌&&◌, ℕ, zero, suc, Bool, true, false, List, [], ◌∷◌, length, get_or, All, Contains, refl, ap, sym, ◌∙◌, subst, arith, inl, inr}
use Rattle.mr_itemset.proofs.Names.{All-contains, All-head, All-tail, All-weaker, AreSame, AuthorColumn, Covers, HasAtMost, IsColumn, IsKept, IsNormal}
use Rattle.mr_itemset.proofs.Names.{IsSame, IsSparse, IsVectorFrom, IsVectorOf, Listed, MAX_HOLES, Name, Normal, Versions, cases_Bool, cases_eq, column_of}
use Rattle.mr_itemset.proofs.Names.{eq-eqb, name_eq, ne_eqb, normal_known, vector_has, vector_in, vector_of, vectors_same, with_below}
use Rattle.mr_forms.specs.Sets.{both}
use Rattle.mr_itemset.specs.ItemForm.{with_all}
use Rattle.mr_itemset.proofs.NormalLemmas.{same_name, vector_in-cases}
use Rattle.mr_itemset.proofs.ItemLemmas.{vector_of-IsVector}

-- ---- an item's versions more

pub sparse_item : {limit : ℕ} (k new : Normal) (item : Name) (set : Versions) (most more : ℕ) → IsNormal limit k → IsNormal limit new → IsSparse k most → most ≤ more → ((columns : List AuthorColumn) → IsVectorOf (both set (vector_has (vector_of k item))) columns → HasAtMost more columns) → AreSame (normal_known new) (with_below (normal_known k) item set) → IsSparse new more
sparse_item k new item set most more nk nn sparse le few same i q = go (cases_Bool (name_eq item i))
  where
    go : (name_eq item i ≡ true) ⊎ (name_eq item i ≡ false) → length (column_of (vector_of new i) q).holes ≤ more
    go (inl here) =
        few (vector_of new i) (record {
          columns_ok = vector_of-IsVector new i nn;
          has = λ v. same i v ∙ ap (λ (b : Bool). (b && set v) || normal_known k i v) here ∙ ap (λ (j : Name). set v || normal_known k j v) (sym (same_name item i here));
        }) q
    go (inr other) =
        let is : vector_of new i ≡ vector_of k i = vectors_same (vector_of new i) (vector_of k i) (vector_of-IsVector new i nn) (vector_of-IsVector k i nk)
        (λ v. same i v ∙ ap (λ (b : Bool). (b && set v) || normal_known k i v) other) in
        rw is (let s = sparse i q in omega arith)

-- ---- counted

pub holes_all : (columns : List AuthorColumn) (most : ℕ) → All (λ x. length x.column.holes ≤ most) columns → HasAtMost most columns
holes_all [] most all q = omega arith
holes_all (x ∷ xs) most all q = elim (cases_eq x.author q) [
  | inl e ↦ rw (eq-eqb x.author q e) (All-head (λ y. length y.column.holes ≤ most) x xs all)
  | inr n ↦ rw (ne_eqb x.author q n) (holes_all xs most (All-tail (λ y. length y.column.holes ≤ most) x xs all) q)
]

pub more_holes : (xs : List AuthorColumn) (few most : ℕ) → few ≤ most → All (λ x. length x.column.holes ≤ few) xs → All (λ x. length x.column.holes ≤ most) xs
more_holes xs few most le all = All-weaker (λ x. length x.column.holes ≤ few) (λ x. length x.column.holes ≤ most) (λ x h. omega arith) xs all

pub at_most_more : (columns : List AuthorColumn) (few most : ℕ) → few ≤ most → HasAtMost few columns → HasAtMost most columns
at_most_more columns few most le has q = let h = has q in omega arith

pub sparse_all : (k : Normal) (most : ℕ) → HasAtMost most k.all → All (λ x. HasAtMost most x.vector) k.listed → IsSparse k most
sparse_all k most all listed i = go (vector_in-cases k.all k.listed i)
  where
    go : (vector_in k.all k.listed i ≡ k.all) ⊎ ((x : Listed) × (Contains k.listed x × ((x.item ≡ i) × (vector_in k.all k.listed i ≡ x.vector)))) → HasAtMost most (vector_of k i)
    go (inl e) = subst (HasAtMost most) (sym e) all
    go (inr x) = subst (HasAtMost most) (sym x.1.1.1) (All-contains (λ y. HasAtMost most y.vector) k.listed x.0 listed x.1.0)

pub kept_alone : {limit : ℕ} (k : Normal) (most : ℕ) → IsNormal limit k → IsSparse k most → most ≤ MAX_HOLES → IsKept limit k [] most
kept_alone k most normal sparse bound = record { normal = normal; vector_ok = tt; few = sparse; room = λ q. omega arith }

exchange : (p b k : Bool) → (p || (b || k)) ≡ (b || (p || k))
exchange p b k = grind arith

-- the item's versions come to what is settled, or to all that is known: it is the same
pub listed_below : (settled new : Normal) (learned : Versions) (item : Name) (set : Versions) → AreSame (normal_known new) (with_below (normal_known settled) item set) → AreSame (with_all (normal_known new) learned) (with_below (with_all (normal_known settled) learned) item set)
listed_below settled new learned item set same i w = ap (λ (b : Bool). learned w || b) (same i w) ∙ exchange (learned w) (name_eq item i && set w) (normal_known settled i w)

-- what all items learn, or is listed for the item, need not be listed
pub covered_set : (k : Normal) (learned : Versions) (item : Name) (set : Versions) → Covers (both learned (vector_has (vector_of k item))) set → AreSame (with_all (normal_known k) learned) (with_below (with_all (normal_known k) learned) item set)
covered_set k learned item set covers i w = go (cases_Bool (name_eq item i)) (cases_Bool (set w))
  where
    go : (name_eq item i ≡ true) ⊎ (name_eq item i ≡ false) → (set w ≡ true) ⊎ (set w ≡ false) → (learned w || normal_known k i w) ≡ ((name_eq item i && set w) || (learned w || normal_known k i w))
    go (inr other) s = rw other refl
    go (inl here) (inr out) = rw (here, out) refl
    go (inl here) (inl has) = rw (here, has) (ap (λ (j : Name). learned w || normal_known k j w) (sym (same_name item i here)) ∙ covers w has)

-- vectors of one meaning have the same holes
pub same_holes : (a b : List AuthorColumn) (most : ℕ) → IsVectorFrom 0 a → IsVectorFrom 0 b → IsSame (vector_has a) (vector_has b) → HasAtMost most a → HasAtMost most b
same_holes a b most va vb same has = subst (HasAtMost most) (vectors_same a b va vb same) has

-- each column of a vector is as it has to be
pub columns_at : (low : ℕ) (xs : List AuthorColumn) (k : ℕ) (x : AuthorColumn) → IsVectorFrom low xs → k < length xs → x ≡ get_or xs k x → IsColumn x.column
columns_at low [] k x ok within is = absurd (omega arith)
columns_at low (y ∷ ys) zero x ok within is = rw is ok.2
columns_at low (y ∷ ys) (suc k) x ok within is = columns_at (y.author + 1) ys k x ok.3 (omega arith) is
