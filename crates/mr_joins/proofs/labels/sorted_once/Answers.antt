use Rattle.std.proofs.lemmas.List.Filters.{dedup_is}
use Rattle.mr_joins.proofs.LabelLemmas.{sorted_labels}
use Rattle.mr_joins.proofs.labels.sorted_once.Goals as goal

pub returns : goal.returns
returns c =
    sorted_labels _ _ _ c.sort_unstable.ensures.permutation c.sort_unstable.ensures.sorted (dedup_is _ _ _ c.dedup.ensures.filtered)
