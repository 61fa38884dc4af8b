-- views
use Rattle.std.proofs.Common.{◌≡◌, ℕ, ◌≤◌, lit≤, true, List}
use Rattle.std.specs.List.{AllPass}
use Rattle.std.specs.List.Sorted.{IsStrictlySortedBy}
use Rattle.std.proofs.lemmas.List.Elements.{All-from_recursion, recursion_from_All, All-nil}
use Rattle.mr_mail.specs.Label.{is_label}
use Rattle.mr_joins.specs.Labels.{in_order}
use Rattle.mr_joins.specs.View.{IsView, nowhere}
use Rattle.mr_joins.proofs.LabelLemmas.{rising-in_order, each-in_order}

-- no folder and no flag make a view
pub IsView-nowhere : IsView nowhere
unfolding IsStrictlySortedBy
IsView-nowhere = record { rising = tt; each = All-nil (λ label. is_label label ≡ true); flags_in = lit≤ tt }

-- labels in order and a flag byte make a view
pub IsView-in_order : (labels : List (List ℕ)) (flags : ℕ) → AllPass is_label labels → flags ≤ 31 → IsView (record { labels = in_order labels; flags = flags })
IsView-in_order labels flags each within = record {
  rising = rising-in_order labels;
  each = All-from_recursion (λ label. is_label label ≡ true) (in_order labels) (each-in_order (λ label. is_label label ≡ true) labels (recursion_from_All (λ label. is_label label ≡ true) labels each));
  flags_in = within;
}
