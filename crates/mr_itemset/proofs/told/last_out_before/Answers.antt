use Rattle.std.proofs.Common.{◌-◌}
use Rattle.mr_concise.proofs.UnionLemmas.{column_has-empty}
use Rattle.mr_itemset.proofs.told.last_out_before.Goals as goal

pub last_gap_before-requires-clause-column : goal.last_gap_before-requires-clause-column
last_gap_before-requires-clause-column c = c.in-Some.ensures.ok

pub last_gap_before-requires-clause-lacks : goal.last_gap_before-requires-clause-lacks
last_gap_before-requires-clause-lacks c = rw c.in-Some.ensures.is c.requires.lacks

pub returns-in-Some-clause-lacks : goal.returns-in-Some-clause-lacks
returns-in-Some-clause-lacks c = rw (← c.in-Some.ensures.is) c.last_gap_before.ensures.lacks

pub returns-in-None-clause-lacks : goal.returns-in-None-clause-lacks
returns-in-None-clause-lacks c = rw c.in-None.ensures.is (column_has-empty (c.args.end - 1))
