use Rattle.std.proofs.Common.{◌≡◌, ◌⊎◌, ◌||◌, ℕ, Bool, true, false, List, [], ◌∷◌, All, AllPairs, Contains, refl, ap, sym, ◌∙◌, subst, arith, inl, inr}
use Rattle.mr_itemset.proofs.Names.{All-cons, All-contains, All-contains_itself, All-head, All-nil, All-tail, All-weaker, AllPairs-head, AllPairs-tail}
use Rattle.mr_itemset.proofs.Names.{AreSame, AuthorColumn, Contains-cases, Contains-here, Contains-there, Fits, HasGained, HasHoleyItem, HasMore, IsBefore}
use Rattle.mr_itemset.proofs.Names.{IsGrown, IsKept, IsNormal, IsSame, IsVectorFrom, Listed, Name, Normal, Pairs, Versions, cases_Bool, column_has-empty}
use Rattle.mr_itemset.proofs.Names.{false≢true, few-vector, normal_known, united, vector_eq, vector_eq-same, vector_has, vector_of}
use Rattle.mr_itemset.specs.Folded.{folded}
use Rattle.std.proofs.lemmas.List.Kept.{AllPairs-cons}
use Rattle.mr_forms.specs.Sets.{both}
use Rattle.mr_itemset.specs.ItemForm.{with_all}
use Rattle.mr_itemset.specs.Folded.{gained}
use Rattle.mr_itemset.proofs.NormalLemmas.{vector_in-has, normal_unique}
use Rattle.mr_itemset.proofs.LimitLemmas.{free_item}
use Rattle.mr_itemset.proofs.ItemLemmas.{vector_of-IsVector}
use Rattle.mr_itemset.proofs.GrowLemmas.{grown_known}
use Rattle.mr_itemset.proofs.ColumnsLemmas.{united-vector, united-has}

-- ---- the listed items with the added versions

grown_none : (set : Versions) (all : List AuthorColumn) → IsGrown set all [] []
grown_none set all = grind (arith, All-nil)

-- an item before the others that has gained the set
grown_first : (set : Versions) (all : List AuthorColumn) (x y : Listed) (old new : List Listed) → All (IsBefore x) old → HasGained set x y → HasMore all y → IsGrown set all old new → IsGrown set all (x ∷ old) (y ∷ new)
grown_first set all x y old new before gains more grown = record {
  rising = AllPairs-cons IsBefore y new (All-weaker (Contains new) (IsBefore y) after new (All-contains_itself new)) grown.rising;
  more = All-cons (HasMore all) y new more grown.more;
  few = let few = grown.few in omega arith;
  from_old = λ z there. came z (Contains-cases y z new there);
  of_old = λ z there. went z (Contains-cases x z old there);
}
  where
    after : (z : Listed) → Contains new z → IsBefore y z
    after z there =
        let from = grown.from_old z there in
        rw (gains.item, from.1.1.item) (All-contains (IsBefore x) old from.0 before from.1.0)

    came : (z : Listed) → (y ≡ z) ⊎ Contains new z → (w : Listed) × (Contains (x ∷ old) w × HasGained set w z)
    came z (inl e) = (x, (Contains-here x old, subst (HasGained set x) e gains))
    came z (inr there) = let from = grown.from_old z there in (from.0, (Contains-there x from.0 old from.1.0, from.1.1))

    kept : (z : Listed) → ((w : Listed) × (Contains new w × HasGained set z w)) ⊎ IsSame (vector_has all) (both set (vector_has z.vector)) → ((w : Listed) × (Contains (y ∷ new) w × HasGained set z w)) ⊎ IsSame (vector_has all) (both set (vector_has z.vector))
    kept z (inl is) = inl (is.0, (Contains-there y is.0 new is.1.0, is.1.1))
    kept z (inr same) = inr same

    went : (z : Listed) → (x ≡ z) ⊎ Contains old z → ((w : Listed) × (Contains (y ∷ new) w × HasGained set z w)) ⊎ IsSame (vector_has all) (both set (vector_has z.vector))
    went z (inl e) = inl (y, (Contains-here y new, subst (λ w. HasGained set w y) e gains))
    went z (inr there) = kept z (grown.of_old z there)

-- an item before the others that is listed no longer
grown_gone : (set : Versions) (all : List AuthorColumn) (x : Listed) (old new : List Listed) → IsSame (vector_has all) (both set (vector_has x.vector)) → IsGrown set all old new → IsGrown set all (x ∷ old) new
grown_gone set all x old new same grown = record {
  rising = grown.rising;
  more = grown.more;
  few = let few = grown.few in omega arith;
  from_old = λ z there. let from = grown.from_old z there in (from.0, (Contains-there x from.0 old from.1.0, from.1.1));
  of_old = λ z there. went z (Contains-cases x z old there);
}
  where
    went : (z : Listed) → (x ≡ z) ⊎ Contains old z → ((w : Listed) × (Contains new w × HasGained set z w)) ⊎ IsSame (vector_has all) (both set (vector_has z.vector))
    went z (inl e) = inr (subst (λ (w : Listed). IsSame (vector_has all) (both set (vector_has w.vector))) e same)
    went z (inr there) = grown.of_old z there

covers_both : (set : Versions) (old x all : Bool) (s : Bool) → all ≡ (s || old) → (old ≡ true → x ≡ true) → all ≡ true → (s || x) ≡ true
covers_both set old x all s e covers has = grind arith

gained_is : (added all before : List AuthorColumn) (xs : List Listed) → IsVectorFrom 0 added → IsVectorFrom 0 all → IsSame (vector_has all) (both (vector_has added) (vector_has before)) → AllPairs IsBefore xs → All (HasMore before) xs → All (λ x. Fits x.vector added) xs → IsGrown (vector_has added) all xs (gained added all xs)
gained_is added all before [] va vall same rising more fits = grown_none (vector_has added) all
gained_is added all before (x ∷ xs) va vall same rising more fits =
    go (cases_Bool (vector_eq (united x.vector added) all)) (gained_is added all before xs va vall same (AllPairs-tail IsBefore x xs rising) (All-tail (HasMore before) x xs more) (All-tail (λ y. Fits y.vector added) x xs fits))
  where
    mine : HasMore before x
    mine = All-head (HasMore before) x xs more

    fit : Fits x.vector added
    fit = All-head (λ y. Fits y.vector added) x xs fits

    vector_ok : IsVectorFrom 0 (united x.vector added)
    vector_ok = united-vector x.vector added mine.vector_ok va fit

    has : IsSame (vector_has (united x.vector added)) (both (vector_has added) (vector_has x.vector))
    has = united-has x.vector added mine.vector_ok va fit

    go : (vector_eq (united x.vector added) all ≡ true) ⊎ (vector_eq (united x.vector added) all ≡ false) → IsGrown (vector_has added) all xs (gained added all xs) → IsGrown (vector_has added) all (x ∷ xs) (gained added all (x ∷ xs))
    go (inl e) rest = rw e (grown_gone (vector_has added) all x xs (gained added all xs) (λ v. sym ((vector_eq-same (united x.vector added) all vector_ok vall).0 e v) ∙ has v) rest)
    go (inr n) rest =
        rw n
        (grown_first (vector_has added) all x (record { item = x.item; vector = united x.vector added }) xs (gained added all xs) (AllPairs-head IsBefore x xs rising)
        (record { item = refl; vector = has })
        (record {
          vector_ok = vector_ok;
          covers = λ v is_in. has v ∙ covers_both (vector_has added) (vector_has before v) (vector_has x.vector v) (vector_has all v) (vector_has added v) (same v) (mine.covers v) is_in;
          more = λ alike. false≢true (sym n ∙ (vector_eq-same (united x.vector added) all vector_ok vall).1 alike);
        })
        rest)

-- ---- the whole

pub kept_fits : {limit : ℕ} (settled : Normal) (pending : List AuthorColumn) (most : ℕ) (i : Name) → IsKept limit settled pending most → Fits (vector_of settled i) pending
kept_fits settled pending most i kept q = let few = kept.few i q in let room = kept.room q in omega arith

pub kept_fits-all : {limit : ℕ} (settled : Normal) (pending : List AuthorColumn) (most : ℕ) → IsKept limit settled pending most → Fits settled.all pending
kept_fits-all settled pending most kept = let free = free_item settled in subst (λ (c : List AuthorColumn). Fits c pending) free.1 (kept_fits settled pending most free.0 kept)

pub kept_fits-listed : {limit : ℕ} (settled : Normal) (pending : List AuthorColumn) (most : ℕ) → IsKept limit settled pending most → All (λ x. Fits x.vector pending) settled.listed
kept_fits-listed settled pending most kept =
    All-weaker (Contains settled.listed) (λ x. Fits x.vector pending)
    (λ x has. subst (λ (c : List AuthorColumn). Fits c pending) (vector_in-has settled.all settled.listed x kept.normal.rising has) (kept_fits settled pending most x.item kept)) settled.listed (All-contains_itself settled.listed)

folded_grown : {limit : ℕ} (settled : Normal) (pending : List AuthorColumn) (most : ℕ) → IsKept limit settled pending most → IsGrown (vector_has pending) (united settled.all pending) settled.listed (gained pending (united settled.all pending) settled.listed)
folded_grown settled pending most kept =
    let fits = kept_fits-all settled pending most kept in
    gained_is pending (united settled.all pending) settled.all settled.listed kept.vector_ok (united-vector settled.all pending kept.normal.all_ok kept.vector_ok fits) (united-has settled.all pending kept.normal.all_ok kept.vector_ok fits) kept.normal.rising kept.normal.more (kept_fits-listed settled pending most kept)

pub folded_normal : {limit : ℕ} (settled : Normal) (pending : List AuthorColumn) (most : ℕ) → IsKept limit settled pending most → IsNormal limit (folded settled pending)
unfolding folded
folded_normal settled pending most kept =
    let grown = folded_grown settled pending most kept in
    record {
      all_ok = united-vector settled.all pending kept.normal.all_ok kept.vector_ok (kept_fits-all settled pending most kept);
      rising = grown.rising;
      more = grown.more;
      few = let a = grown.few in let b = kept.normal.few in omega arith;
    }

-- THE MEANING of what is kept
pub folded_known : {limit : ℕ} (settled : Normal) (pending : List AuthorColumn) (most : ℕ) → IsKept limit settled pending most → AreSame (normal_known (folded settled pending)) (with_all (normal_known settled) (vector_has pending))
unfolding folded
folded_known settled pending most kept =
    grown_known (vector_has pending) settled (folded settled pending) kept.normal (folded_grown settled pending most kept)
    (united-has settled.all pending kept.normal.all_ok kept.vector_ok (kept_fits-all settled pending most kept))

pub same_pairs : (s t : Pairs) → AreSame s t → s ≡ t
same_pairs s t same = λ k i v. same i v k

pub folded_pairs : {limit : ℕ} (settled : Normal) (pending : List AuthorColumn) (most : ℕ) → IsKept limit settled pending most → normal_known (folded settled pending) ≡ with_all (normal_known settled) (vector_has pending)
folded_pairs settled pending most kept = same_pairs (normal_known (folded settled pending)) (with_all (normal_known settled) (vector_has pending)) (folded_known settled pending most kept)

-- where nothing is pending it is what is settled
pub folded_nothing : {limit : ℕ} (settled : Normal) (most : ℕ) → IsKept limit settled [] most → folded settled [] ≡ settled
folded_nothing settled most kept = normal_unique (folded settled []) settled (folded_normal settled [] most kept) kept.normal
    (λ i v. folded_known settled [] most kept i v ∙ ap (λ (b : Bool). b || normal_known settled i v) (column_has-empty v.counter))

-- no item of a value has too many holes
pub normal_few : {limit : ℕ} (k : Normal) → IsNormal limit k → HasHoleyItem (normal_known k) → ⊥
normal_few k normal holey = few-vector (vector_of k holey.item) (normal_known k holey.item) (vector_of-IsVector k holey.item normal) (λ v. refl) holey.holes
