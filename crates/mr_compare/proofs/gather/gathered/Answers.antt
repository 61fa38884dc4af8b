use Rattle.mr_compare.proofs.GatherLemmas.{gathered_more}
use Rattle.mr_compare.proofs.gather.gathered.Goals as goal

pub loop-pair-preserved : goal.loop-pair-preserved
loop-pair-preserved g c = gathered_more g.K.Ord.cmp c.loop-pair.table.entries c.put.new.table.entries c.loop-pair.yielded c.in-Some.pair c.in_ok-put.ensures c.loop-pair.invariant
