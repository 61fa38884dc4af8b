-- labels after a sort and a removal of repeats
use Rattle.std.proofs.Common.{◌≡◌, ℕ, ◌≤◌, Bool, true, false, cond, ◌||◌, List, [], ◌∷◌, map, refl, sym, ◌∙◌, ap, subst, length, string_bytes}
use Rattle.std.specs.List.{list_any, list_all, dedup, dedup_from, AllByRecursion, AllPass, IsDistinct}
use Rattle.std.specs.List.Sorted.{IsStrictlySortedBy, IsSorted, IsPermutation}
use Rattle.std.specs.declared.cmp.Ordering.{Ordering}
use Rattle.std.specs.declared.cmp.Ordering.TheVariants.{Less}
use Rattle.std.specs.Ordering.{eq_by_cmp}
use Rattle.std.specs.Cmp.Lexicographic.{nat_list_eq_equiv, texts_ties}
use Rattle.std.proofs.lemmas.List.Sorted.{list_any-IsPermutation}
use Rattle.std.specs.String.{string_cmp, string_eq, string_cmp_total}
use Rattle.std.specs.declared.string.String.{String}
use Rattle.std.specs.declared.alloc.Global.{Global}
use Rattle.std.proofs.lemmas.List.Elements.{All-map}
use Rattle.std.proofs.lemmas.List.Filters.{All-dedup}
use Rattle.std.proofs.lemmas.List.Folds.{list_all-map}
use Rattle.std.proofs.lemmas.List.Sums.{AllPass-from_list_all, list_all-from_AllPass}
use Rattle.std.proofs.lemmas.List.Kept.{IsStrictlySortedBy-dedup}
use Rattle.std.proofs.lemmas.List.Sorted.{All-permutation}
use Rattle.std.proofs.lemmas.Slice.Eq.{bytes_eq-Decides}
use Rattle.std.proofs.lemmas.Map.Keys.{IsDistinct-from_sorted}
use Rattle.std.proofs.lemmas.Map.Made.{length-from_keys}
use Rattle.mr_mail.specs.Label.{text_eq, text_cmp, different_labels, is_label, texts_of, IsLabelSet, AreLabelsOf}

-- what a list's elements are below, their images are below
pub AllByRecursion-map : {X Y : Type 0} (f : X → Y) (P : Y → Type 0) (xs : List X) → AllByRecursion (λ x. P (f x)) xs → AllByRecursion P (map f xs)
AllByRecursion-map f P [] all = all
AllByRecursion-map f P (x ∷ xs) all = (all.0, AllByRecursion-map f P xs all.1)

-- a list that rises by its elements' images has images that rise
pub IsStrictlySortedBy-map : {X Y : Type 0} (f : X → Y) (cmp : Y → Y → Ordering) (xs : List X) → IsStrictlySortedBy (λ a b. cmp (f a) (f b)) xs → IsStrictlySortedBy cmp (map f xs)
unfolding IsStrictlySortedBy
IsStrictlySortedBy-map f cmp [] rising = rising
IsStrictlySortedBy-map f cmp (x ∷ xs) rising =
    (AllByRecursion-map f (λ y. cmp (f x) y ≡ Less) xs rising.0, IsStrictlySortedBy-map f cmp xs rising.1)

-- an element passes a test exactly if its image does
pub list_any-map : {X Y : Type 0} (f : X → Y) (p : Y → Bool) (xs : List X) → list_any p (map f xs) ≡ list_any (λ x. p (f x)) xs
list_any-map f p [] = refl
list_any-map f p (x ∷ xs) = ap (λ rest. p (f x) || rest) (list_any-map f p xs)

-- a test that answers alike of two elements finds in both no more than in the first
pub or_again : (k x rest : Bool) → x ≡ k → (k || rest) ≡ (k || (x || rest))
or_again true x rest alike = refl
or_again false x rest alike = rw alike refl

-- a removal of repeats keeps what a test finds, where the test answers alike of elements that are the same
pub list_any-dedup_from : {X : Type 0} (E : X → X → Bool) (p : X → Bool) → ((x y : X) → E x y ≡ true → p x ≡ p y) → (k : X) (xs : List X) → list_any p (dedup_from E k xs) ≡ (p k || list_any p xs)
list_any-dedup_from E p alike k [] = refl
list_any-dedup_from E p alike k (x ∷ xs) =
    elim (E x k) as (λ b. (E x k ≡ b) → list_any p (cond b (dedup_from E k xs) (k ∷ dedup_from E x xs)) ≡ (p k || (p x || list_any p xs))) [
      | true ↦ λ same. list_any-dedup_from E p alike k xs ∙ or_again (p k) (p x) (list_any p xs) (alike x k same)
      | false ↦ λ _. ap (λ b. p k || b) (list_any-dedup_from E p alike x xs)
    ] refl

pub list_any-dedup : {X : Type 0} (E : X → X → Bool) (p : X → Bool) → ((x y : X) → E x y ≡ true → p x ≡ p y) → (xs : List X) → list_any p (dedup E xs) ≡ list_any p xs
list_any-dedup E p alike [] = refl
list_any-dedup E p alike (x ∷ xs) = list_any-dedup_from E p alike x xs

-- texts that rise and have the members of the texts that were given are as many as those that differ
pub length-AreLabelsOf : (given labels : List (List ℕ)) → AreLabelsOf given labels → length labels ≡ different_labels given
length-AreLabelsOf given labels h =
    let ties : (a b : List ℕ) → text_eq a b ≡ eq_by_cmp text_cmp a b = texts_ties in
    let same_test : eq_by_cmp text_cmp ≡ text_eq = λ i a b. sym (ties a b) i in
    let apart = subst (λ e. IsDistinct e labels) same_test (IsDistinct-from_sorted text_cmp labels h.rising) in
    length-from_keys nat_list_eq_equiv labels given apart h.same

-- a sort and a removal of repeats leave the labels that were given
pub AreLabelsOf-sorted : (given sorted once : List (String Global)) → IsPermutation given sorted → IsSorted string_cmp sorted → once ≡ dedup string_eq sorted → AreLabelsOf (texts_of given) (texts_of once)
AreLabelsOf-sorted given sorted once moved rises is =
    let rising : IsStrictlySortedBy string_cmp (dedup string_eq sorted) =
    IsStrictlySortedBy-dedup string_cmp_total (λ a b. texts_ties (string_bytes a) (string_bytes b)) sorted rises in
    record {
      rising = rw is (IsStrictlySortedBy-map (λ s. string_bytes s) text_cmp (dedup string_eq sorted) rising);
      same = λ label.
          let test : String Global → Bool = λ s. text_eq label (string_bytes s) in
          let alike : (a b : String Global) → string_eq a b ≡ true → test a ≡ test b =
          λ a b e. ap (λ t. text_eq label t) ((bytes_eq-Decides (string_bytes a) (string_bytes b)).0 e) in
          list_any-map (λ s. string_bytes s) (text_eq label) once
          ∙ (rw is (list_any-dedup string_eq test alike sorted)
          ∙ (sym (list_any-IsPermutation test given sorted moved)
          ∙ sym (list_any-map (λ s. string_bytes s) (text_eq label) given)));
    }

-- a test that each image passes is one that each element passes by its image
pub AllPass-from_map : {X Y : Type 0} (f : X → Y) (p : Y → Bool) (xs : List X) → AllPass p (map f xs) → AllPass (λ x. p (f x)) xs
AllPass-from_map f p xs each =
    AllPass-from_list_all (λ x. p (f x)) xs (sym (list_all-map p f xs) ∙ list_all-from_AllPass p (map f xs) each)

pub list_all_of_texts : (texts : List (String Global)) → list_all is_label (texts_of texts) ≡ list_all (λ text. is_label (string_bytes text)) texts
list_all_of_texts texts = list_all-map is_label (λ text. string_bytes text) texts

-- labels that were given make a set of labels, if each is one and few differ
pub IsLabelSet_from : (given labels : List (List ℕ)) → AreLabelsOf given labels → AllPass is_label labels → length labels ≤ 16 → IsLabelSet labels
IsLabelSet_from given labels h each few = record { rising = h.rising; each = each; few = few }

-- what holds of each label that was given holds of each that stays
pub AllPass-sorted : (given sorted once : List (String Global)) → IsPermutation given sorted → once ≡ dedup string_eq sorted → AllPass is_label (texts_of given) → AllPass is_label (texts_of once)
AllPass-sorted given sorted once moved is each =
    let P : String Global → Type 0 = λ s. is_label (string_bytes s) ≡ true in
    rw is (All-map (λ t. is_label t ≡ true) (λ s. string_bytes s) (dedup string_eq sorted)
    (All-dedup string_eq P sorted (All-permutation P given sorted moved (AllPass-from_map (λ s. string_bytes s) is_label given each))))
