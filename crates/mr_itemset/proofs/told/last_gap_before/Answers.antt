use Rattle.std.proofs.Common.{◌+◌}
use Rattle.mr_itemset.proofs.HoleWalk.{firsts-rise, last_lacks}
use Rattle.mr_itemset.proofs.told.last_gap_before.Goals as goal

pub last_begun-requires : goal.last_begun-requires
last_begun-requires c = rw c.holes.ensures (firsts-rise 0 c.args.column.now.holes (c.args.column.now.upto + 1) c.requires.column.apart)

pub returns-in-Some-clause-lacks : goal.returns-in-Some-clause-lacks
returns-in-Some-clause-lacks c =
    let there = rw c.holes.ensures at c.in-Some.ensures in
    last_lacks c.args.column.now c.in-Some.hole c.args.first c.args.end c.max.result c.requires.column there.0 there.1 c.requires.lacks (cc)
