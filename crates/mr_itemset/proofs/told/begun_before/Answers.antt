use Rattle.std.proofs.Common.{rules, nat_lt}
use Rattle.std.proofs.lemmas.List.Sorted.{IsPartitionPoint-from_clause, IsPartitionedBy-ltb}
use Rattle.mr_itemset.proofs.told.begun_before.Goals as goal

pub returns-clause-begun : goal.returns-clause-begun
returns-clause-begun c = IsPartitionPoint-from_clause (λ h. nat_lt h.first c.args.counter) c.args.holes.now c.partition_point.result c.partition_point.ensures.partitioned (IsPartitionedBy-ltb (λ h. h.first) c.args.holes.now c.args.counter c.requires) (λ a r q k. search rules)
