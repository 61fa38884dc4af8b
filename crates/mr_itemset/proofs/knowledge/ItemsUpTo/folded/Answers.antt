use Rattle.mr_itemset.proofs.SplitLimitLemmas.{folded_is}
use Rattle.mr_itemset.proofs.knowledge.ItemsUpTo.folded.Goals as goal

pub returns-clause-is : goal.returns-clause-is
returns-clause-is g c = folded_is c.args.self.now c.parts-parts.result.settled.now c.parts-parts.result.pending.now c.in_ok-settled.settled c.parts-parts.ensures c.in_ok-settled.ensures.normal c.in_ok-settled.ensures.same
