use Rattle.std.proofs.Common.{◌≤◌, rules}
use Rattle.std.specs.List.{AllPass}
use Rattle.mr_mail.specs.Label.{is_label}
use Rattle.mr_joins.proofs.view.View.of_rising.Goals as goal

pub invariant_of-result : goal.invariant_of-result
invariant_of-result c =
    let within : c.args.flags ≤ 31 = search rules in
    let each : AllPass is_label c.args.labels.items = rw c.as_slice.ensures.value at c.tell_labels.ensures in
    record { rising = c.requires; each = each; flags_in = within }
