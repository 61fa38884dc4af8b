-- labels in order
use Rattle.std.proofs.Common.{◌≡◌, ℕ, Bool, true, false, ◌||◌, List, [], ◌∷◌, refl, sym, ap, ◌∙◌, inl, inr, ◌⊎◌}
use Rattle.std.specs.Bool.{Decides}
use Rattle.std.specs.Cmp.{tied_itself}
use Rattle.std.specs.Cmp.Lexicographic.{bytes_decides, nat_list_cmp_total, pointwise, pointwise_decides, texts_ties}
use Rattle.std.specs.List.{AllByRecursion, dedup}
use Rattle.std.specs.List.Sorted.{IsStrictlySortedBy, IsPermutation, IsSorted}
use Rattle.std.specs.Ordering.{match_ordering, ordering_reverse}
use Rattle.std.specs.declared.cmp.Ordering.TheVariants.{Less, Equal, Greater}
use Rattle.std.proofs.lemmas.Bool.{false≢true, or_cases, or_right}
use Rattle.std.proofs.lemmas.List.Kept.{IsStrictlySortedBy-dedup}
use Rattle.std.proofs.lemmas.List.Sorted.{list_any-IsPermutation}
use Rattle.std.proofs.lemmas.Map.Lookups.{exact_bytes}
use Rattle.mr_mail.specs.Label.{text_cmp, text_eq, has_label}
use Rattle.mr_mail.proofs.LabelLemmas.{list_any-dedup}
use Rattle.mr_joins.specs.Labels.{with_label, in_order}

-- whether two lists of labels are one
pub labels_decide : (xs ys : List (List ℕ)) → Decides (pointwise text_eq xs ys) (xs ≡ ys)
labels_decide xs ys = pointwise_decides bytes_decides xs ys

pub same_text : (a b : List ℕ) → text_eq a b ≡ true → a ≡ b
same_text a b = (bytes_decides a b).0

pub text_eq-itself : (a : List ℕ) → text_eq a a ≡ true
text_eq-itself a = (bytes_decides a a).1 refl

turned : (a b : List ℕ) → text_cmp a b ≡ Greater → text_cmp b a ≡ Less
turned a b e = nat_list_cmp_total.antisymm b a ∙ ap ordering_reverse e

not_twice : (a b : List ℕ) → text_cmp a b ≡ Less → text_cmp b a ≡ Less → ⊥
not_twice a b ab ba =
    let round = nat_list_cmp_total.trans a b a ab ba in
    let same = tied_itself nat_list_cmp_total a in
    cc

-- what holds of the label and of each other one holds of each
pub each-with_label : (P : List ℕ → Type 0) (label : List ℕ) (labels : List (List ℕ)) → P label → AllByRecursion P labels → AllByRecursion P (with_label label labels)
each-with_label P label [] one all = (one, all)
each-with_label P label (first ∷ more) one all =
    elim (text_cmp label first) as (λ o. AllByRecursion P (match_ordering o (label ∷ first ∷ more) (first ∷ more) (first ∷ with_label label more))) [
      | Less ↦ (one, all)
      | Equal ↦ all
      | Greater ↦ (all.0, each-with_label P label more one all.1)
    ]

pub each-in_order : (P : List ℕ → Type 0) (labels : List (List ℕ)) → AllByRecursion P labels → AllByRecursion P (in_order labels)
each-in_order P [] all = all
each-in_order P (label ∷ labels) all = each-with_label P label (in_order labels) all.0 (each-in_order P labels all.1)

below_all : (a b : List ℕ) (labels : List (List ℕ)) → text_cmp a b ≡ Less → AllByRecursion (λ y. text_cmp b y ≡ Less) labels → AllByRecursion (λ y. text_cmp a y ≡ Less) labels
below_all a b [] less all = all
below_all a b (y ∷ ys) less all = (nat_list_cmp_total.trans a b y less all.0, below_all a b ys less all.1)

rising-with_label : (label : List ℕ) (labels : List (List ℕ)) → IsStrictlySortedBy text_cmp labels → IsStrictlySortedBy text_cmp (with_label label labels)
unfolding IsStrictlySortedBy
rising-with_label label [] rising = (tt, tt)
rising-with_label label (first ∷ more) rising =
    elim (text_cmp label first) as (λ o. text_cmp label first ≡ o → IsStrictlySortedBy text_cmp (match_ordering o (label ∷ first ∷ more) (first ∷ more) (first ∷ with_label label more))) [
      | Less ↦ λ e. ((e, below_all label first more e rising.0), rising)
      | Equal ↦ λ e. rising
      | Greater ↦ λ e. (each-with_label (λ y. text_cmp first y ≡ Less) label more (turned label first e) rising.0, rising-with_label label more rising.1)
    ] refl

pub rising-in_order : (labels : List (List ℕ)) → IsStrictlySortedBy text_cmp (in_order labels)
unfolding IsStrictlySortedBy
rising-in_order [] = tt
rising-in_order (label ∷ labels) = rising-with_label label (in_order labels) (rising-in_order labels)

or_again : (b c : Bool) → (b || c) ≡ (b || (b || c))
or_again true c = refl
or_again false c = refl

or_swapped : (a b c : Bool) → (a || (b || c)) ≡ (b || (a || c))
or_swapped true true c = refl
or_swapped true false c = refl
or_swapped false b c = refl

pub has-with_label : (label : List ℕ) (labels : List (List ℕ)) (q : List ℕ) → has_label (with_label label labels) q ≡ (text_eq q label || has_label labels q)
has-with_label label [] q = refl
has-with_label label (first ∷ more) q =
    elim (text_cmp label first) as (λ o. text_cmp label first ≡ o → has_label (match_ordering o (label ∷ first ∷ more) (first ∷ more) (first ∷ with_label label more)) q ≡ (text_eq q label || (text_eq q first || has_label more q))) [
      | Less ↦ λ e. refl
      | Equal ↦ λ e. rw (exact_bytes label first e) (or_again (text_eq q first) (has_label more q))
      | Greater ↦ λ e. ap (λ b. text_eq q first || b) (has-with_label label more q) ∙ or_swapped (text_eq q first) (text_eq q label) (has_label more q)
    ] refl

-- an order keeps which labels there are
pub has-in_order : (labels : List (List ℕ)) (q : List ℕ) → has_label (in_order labels) q ≡ has_label labels q
has-in_order [] q = refl
has-in_order (label ∷ labels) q = has-with_label label (in_order labels) q ∙ ap (λ b. text_eq q label || b) (has-in_order labels q)

-- ---- rising labels are told by which they are

pub behind : (x : List ℕ) (xs : List (List ℕ)) (q : List ℕ) → AllByRecursion (λ y. text_cmp x y ≡ Less) xs → has_label xs q ≡ true → text_cmp x q ≡ Less
behind x [] q all any = absurd (false≢true any)
behind x (y ∷ ys) q all any =
    elim (or_cases (text_eq q y) (has_label ys q) any) [
      | inl e ↦ rw (same_text q y e) all.0
      | inr more ↦ behind x ys q all.1 more
    ]

has_first : (x : List ℕ) (xs : List (List ℕ)) → has_label (x ∷ xs) x ≡ true
has_first x xs = rw (text_eq-itself x) refl

has_more : (x q : List ℕ) (xs : List (List ℕ)) → has_label xs q ≡ true → has_label (x ∷ xs) q ≡ true
has_more x q xs any = or_right (text_eq q x) (has_label xs q) any

-- labels that rise, each among the others', are the others
subset_both : (xs ys : List (List ℕ)) → IsStrictlySortedBy text_cmp xs → IsStrictlySortedBy text_cmp ys → ((q : List ℕ) → has_label xs q ≡ true → has_label ys q ≡ true) → ((q : List ℕ) → has_label ys q ≡ true → has_label xs q ≡ true) → xs ≡ ys
unfolding IsStrictlySortedBy
subset_both [] [] sx sy xy yx = refl
subset_both [] (y ∷ ys) sx sy xy yx = absurd (false≢true (yx y (has_first y ys)))
subset_both (x ∷ xs) [] sx sy xy yx = absurd (false≢true (xy x (has_first x xs)))
subset_both (x ∷ xs) (y ∷ ys) sx sy xy yx =
    let same = heads (or_cases (text_eq x y) (has_label ys x) (xy x (has_first x xs))) (or_cases (text_eq y x) (has_label xs y) (yx y (has_first y ys))) in
    let rest = subset_both xs ys sx.1 sy.1
    (λ q any. drop_head x y ys q same (behind x xs q sx.0 any) (or_cases (text_eq q y) (has_label ys q) (xy q (has_more x q xs any))))
    (λ q any. drop_head y x xs q (sym same) (behind y ys q sy.0 any) (or_cases (text_eq q x) (has_label xs q) (yx q (has_more y q ys any)))) in
    cc
  where
    heads : (text_eq x y ≡ true) ⊎ (has_label ys x ≡ true) → (text_eq y x ≡ true) ⊎ (has_label xs y ≡ true) → x ≡ y
    heads (inl e) b = same_text x y e
    heads (inr a) (inl e) = sym (same_text y x e)
    heads (inr a) (inr b) = absurd (not_twice x y (behind x xs y sx.0 b) (behind y ys x sy.0 a))

    drop_head : (a b : List ℕ) (bs : List (List ℕ)) (q : List ℕ) → a ≡ b → text_cmp a q ≡ Less → (text_eq q b ≡ true) ⊎ (has_label bs q ≡ true) → has_label bs q ≡ true
    drop_head a b bs q same less (inl e) = let loop : text_cmp q q ≡ Less = rw (same ∙ sym (same_text q b e)) at less in absurd (not_twice q q loop loop)
    drop_head a b bs q same less (inr any) = any

pub rising-unique : (xs ys : List (List ℕ)) → IsStrictlySortedBy text_cmp xs → IsStrictlySortedBy text_cmp ys → ((q : List ℕ) → has_label xs q ≡ has_label ys q) → xs ≡ ys
rising-unique xs ys sx sy alike = subset_both xs ys sx sy (λ q any. sym (alike q) ∙ any) (λ q any. alike q ∙ any)

-- a sort and a removal of repeats put labels in order
pub sorted_labels : (given sorted once : List (List ℕ)) → IsPermutation given sorted → IsSorted text_cmp sorted → once ≡ dedup text_eq sorted → once ≡ in_order given
sorted_labels given sorted once moved rises is =
    rw is (rising-unique (dedup text_eq sorted) (in_order given)
    (IsStrictlySortedBy-dedup nat_list_cmp_total texts_ties sorted rises) (rising-in_order given)
    (λ q.
    let test : List ℕ → Bool = λ s. text_eq q s in
    let alike : (a b : List ℕ) → text_eq a b ≡ true → test a ≡ test b = λ a b e. ap (λ t. text_eq q t) (same_text a b e) in
    list_any-dedup text_eq test alike sorted ∙ (sym (list_any-IsPermutation test given sorted moved) ∙ sym (has-in_order given q))))
