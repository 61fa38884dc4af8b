-- no label is a set of labels
use Rattle.std.proofs.Common.{◌≡◌, [], true, arith}
use Rattle.mr_filter.proofs.Names.{All-nil, IsLabelSet, is_label}
use Rattle.std.specs.List.Sorted.{IsStrictlySortedBy}

pub IsLabelSet-none : IsLabelSet []
unfolding IsStrictlySortedBy
IsLabelSet-none = record { rising = tt; each = All-nil (λ label. is_label label ≡ true); few = omega arith }
