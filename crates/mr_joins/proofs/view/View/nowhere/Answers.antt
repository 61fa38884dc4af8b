use Rattle.mr_joins.proofs.ViewLemmas.{IsView-nowhere}
use Rattle.mr_joins.proofs.view.View.nowhere.Goals as goal

pub invariant_of-result : goal.invariant_of-result
invariant_of-result c = rw (c.new.ensures.items, c.empty.ensures) IsView-nowhere
