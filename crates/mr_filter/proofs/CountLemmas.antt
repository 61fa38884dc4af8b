-- among more labels no fewer differ
use Rattle.std.proofs.Common.{◌≡◌, ℕ, ◌≤◌, Bool, true, false, cond, ◌||◌, List, [], ◌∷◌, refl, sym, ◌∙◌, ap, arith}
use Rattle.mr_filter.proofs.Names.{AllByRecursion, different_labels, has_label, length-le_from_is_member, list_any, list_any_congr}
use Rattle.std.specs.List.{IsDistinct}
use Rattle.mr_filter.proofs.Names.{nat_list_eq_equiv, text_eq, true≢false}
use Rattle.std.specs.Set.{unique_keys}

-- a label that is named again is no new one
named_again : (same rest : Bool) → (same ≡ true → rest ≡ true) → rest ≡ (same || rest)
named_again same rest again = grind arith

has_label-unique_keys : (labels : List (List ℕ)) (label : List ℕ) → has_label (unique_keys text_eq labels) label ≡ has_label labels label
has_label-unique_keys [] label = refl
has_label-unique_keys (x ∷ labels) label =
    elim (has_label labels x) as (λ b. (has_label labels x ≡ b) → list_any (text_eq label) (cond b (unique_keys text_eq labels) (x ∷ unique_keys text_eq labels)) ≡ (text_eq label x || has_label labels label)) [
      | true ↦ λ again. has_label-unique_keys labels label
          ∙ named_again (text_eq label x) (has_label labels label) (λ same. list_any_congr nat_list_eq_equiv label x labels same ∙ again)
      | false ↦ λ _. ap (λ rest. text_eq label x || rest) (has_label-unique_keys labels label)
    ] refl

apart_from_absent : (label : List ℕ) (labels : List (List ℕ)) → has_label labels label ≡ false → AllByRecursion (λ other. text_eq label other ≡ false) labels
apart_from_absent label [] absent = tt
apart_from_absent label (x ∷ labels) absent = grind (arith, apart_from_absent label labels, true≢false)

IsDistinct-unique_keys : (labels : List (List ℕ)) → IsDistinct text_eq (unique_keys text_eq labels)
unfolding IsDistinct
IsDistinct-unique_keys [] = tt
IsDistinct-unique_keys (x ∷ labels) =
    elim (has_label labels x) as (λ b. (has_label labels x ≡ b) → IsDistinct text_eq (cond b (unique_keys text_eq labels) (x ∷ unique_keys text_eq labels))) [
      | true ↦ λ _. IsDistinct-unique_keys labels
      | false ↦ λ absent. (apart_from_absent x (unique_keys text_eq labels) (has_label-unique_keys labels x ∙ absent), IsDistinct-unique_keys labels)
    ] refl

pub different_labels-le : (some more : List (List ℕ)) → ((label : List ℕ) → has_label some label ≡ true → has_label more label ≡ true) → different_labels some ≤ different_labels more
different_labels-le some more among =
    length-le_from_is_member nat_list_eq_equiv (unique_keys text_eq some) (unique_keys text_eq more) (IsDistinct-unique_keys some)
    (λ label has. has_label-unique_keys more label ∙ among label (sym (has_label-unique_keys some label) ∙ has))
