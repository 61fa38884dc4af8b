use Rattle.std.proofs.Common.{arith}
use Rattle.mr_itemset.proofs.RisingLemmas.{steps_up}
use Rattle.mr_itemset.proofs.each.rises.Goals as goal

pub returns : goal.returns
returns c _ i j d less within = steps_up c.args.items.now (λ k e inside. c.loop-at.invariant k e (omega arith)) i j d less within
