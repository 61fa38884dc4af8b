-- what items and all items have already, and counts where nothing waits
use Rattle.std.proofs.Common.{◌≡◌, ◌<◌, ◌≤◌, ◌↔◌, ◌⊎◌, OnOk, IsErrOf, IsErrAnd, Result, Ok, Err, get_or, ◌||◌, ℕ, suc, Bool, true, false, List, [], ◌∷◌, length, take, drop, All, refl, sym, subst, arith, inl, inr}
use Rattle.mr_itemset.proofs.Names.{All-head, All-tail, AreOverHolesInTurn, AreOverItemsInTurn, AreSame, AuthorColumn, Covers, FirstHasValue, FormFault}
use Rattle.mr_itemset.proofs.Names.{Fragment, HasHoleyItem, HasMore, HasValue, IsNormal, IsOnlyOverItems, IsVectorFrom, Listed, Name, Normal, Pairs, Versions}
use Rattle.mr_itemset.proofs.Names.{after_all, after_each, cases_Bool, err_from_is_err_and, holes_there, items_form, items_there, normal_known, united}
use Rattle.mr_itemset.proofs.Names.{vector_eq, vector_eq-same, vector_has, with_below, with_pairs}
use Rattle.mr_forms.specs.declared.fault.FormFault.TheVariants as fault
use Rattle.mr_forms.specs.Covered.{covered}
use Rattle.mr_forms.proofs.MergedLemmas.{split_at}
use Rattle.mr_itemset.specs.ItemForm.{with_all}
use Rattle.mr_itemset.specs.Folded.{gained}
use Rattle.mr_itemset.proofs.NormalLemmas.{same_name}
use Rattle.mr_itemset.proofs.ItemLemmas.{covers_all}

nothing_new : (s o : Bool) → (s ≡ true → o ≡ true) → o ≡ (s || o)
nothing_new s o h = grind arith

-- an item that has the set learns nothing of it
pub item_has : (k : Pairs) (item : Name) (set : Versions) → Covers (k item) set → AreSame k (with_below k item set)
item_has k item set covers i v = grind (arith, cases_Bool, nothing_new, same_name)

-- and all items learn nothing where what is known for all has the set
pub all_have : {limit : ℕ} (k : Normal) (set : Versions) → IsNormal limit k → Covers (vector_has k.all) set → AreSame (normal_known k) (with_all (normal_known k) set)
all_have k set normal covers i v = nothing_new (set v) (normal_known k i v) (λ is_in. covers_all k i v normal (covers v is_in))

same_listed : (all : List AuthorColumn) (xs : List Listed) → IsVectorFrom 0 all → All (HasMore all) xs → length (gained [] all xs) ≡ length xs
same_listed all [] all_ok more = refl
same_listed all (x ∷ xs) all_ok more = go (cases_Bool (vector_eq x.vector all)) (same_listed all xs all_ok (All-tail (HasMore all) x xs more))
  where
    head : HasMore all x
    head = All-head (HasMore all) x xs more

    go : (vector_eq x.vector all ≡ true) ⊎ (vector_eq x.vector all ≡ false) → length (gained [] all xs) ≡ length xs → length (gained [] all (x ∷ xs)) ≡ length (x ∷ xs)
    go (inl e) rest = absurd (head.more ((vector_eq-same x.vector all head.vector_ok all_ok).0 e))
    go (inr n) rest = rw n (omega arith)

-- where nothing waits each listed item stays listed
pub all_listed : {limit : ℕ} (k : Normal) (added : List AuthorColumn) → length added ≡ 0 → IsNormal limit k → length (gained added (united k.all added) k.listed) ≡ length k.listed
all_listed k [] none normal = same_listed k.all k.listed normal.all_ok normal.more
all_listed k (x ∷ xs) none normal = absurd (omega arith)

-- a fault that is passed on is the first one
pub passed_on : {T : Type 0} (made : Result (Unit {0}) FormFault) (result : Result T FormFault) (e f : FormFault) → made ≡ Err e → IsErrAnd result (λ y. y ≡ e) → IsErrOf result f → made ≡ Err f
passed_on made result e f was on is = let p = err_from_is_err_and result on in let same = p.1 in let told = p.2 in cc

-- of fragments that are merged in turn the one at k is refused
module _ {V : Type 0} (limit : ℕ) (has : V → Versions) (known : Pairs) (old : Normal) (fs : List (Fragment V)) (k : ℕ) (f : Fragment V) (within : k < length fs) (at : f ≡ get_or fs k f) (is : AreSame (normal_known old) (after_all has known (take k fs))) (made : Result (Unit {0}) FormFault) (fits : All (HasValue (items_form limit)) (after_each has known (take k fs)))
    (holes : IsErrOf made fault.TooManyHoles ↔ HasHoleyItem (with_pairs (normal_known old) (covered has f))) (items : IsErrOf made fault.TooManyItems ↔ IsOnlyOverItems (items_form limit) (with_pairs (normal_known old) (covered has f))) where
  pub holes_at : made ≡ Err fault.TooManyHoles → AreOverHolesInTurn (items_form limit) (after_each has known fs)
  holes_at err =
      subst (λ (gs : List (Fragment V)). AreOverHolesInTurn (items_form limit) (after_each has known gs)) (sym (split_at fs k f within at))
      (holes_there (items_form limit) has known old (take k fs) f is made fits holes items err (drop (suc k) fs))

  pub items_at : made ≡ Err fault.TooManyItems → AreOverItemsInTurn (items_form limit) (after_each has known fs)
  items_at err =
      subst (λ (gs : List (Fragment V)). AreOverItemsInTurn (items_form limit) (after_each has known gs)) (sym (split_at fs k f within at))
      (items_there (items_form limit) has known old (take k fs) f is made fits holes items err (drop (suc k) fs))

-- where the first fragment may be merged there is a value for it
pub first_value : {V : Type 0} (limit : ℕ) (has : V → Versions) (known : Pairs) (fs : List (Fragment V)) (f : Fragment V) (made : Result (Unit {0}) FormFault) → 1 ≤ length fs → f ≡ get_or fs 0 f → (IsErrOf made fault.TooManyHoles ↔ HasHoleyItem (with_pairs known (covered has f))) → (IsErrOf made fault.TooManyItems ↔ IsOnlyOverItems (items_form limit) (with_pairs known (covered has f))) → OnOk made (FirstHasValue (items_form limit) (after_each has known fs))
first_value limit has known [] f made some first holes items = absurd (omega arith)
first_value limit has known (g ∷ gs) f (Err e) some first holes items = tt
first_value limit has known (g ∷ gs) f (Ok t) some first holes items =
    subst (λ (x : Fragment _). HasValue (items_form limit) (with_pairs known (covered has x))) first
    (let no_holes : ¬ HasHoleyItem (with_pairs known (covered has f)) = λ many. let wrong = holes.1 many in cc in
    (no_holes, λ many. let wrong = items.1 (many, no_holes) in cc))
