use Rattle.std.proofs.Common.{rules, nat_lt}
use Rattle.std.proofs.lemmas.List.Sorted.{IsPartitionPoint-from_clause, IsPartitionedBy-ltb}
use Rattle.mr_concise.proofs.VectorLemmas.{authors-rise}
use Rattle.mr_concise.proofs.vector.place_of_id.Goals as goal

pub returns-clause-place : goal.returns-clause-place
returns-clause-place c = IsPartitionPoint-from_clause (λ x. nat_lt x.author c.args.id) c.args.columns.now c.partition_point.result c.partition_point.ensures.partitioned (IsPartitionedBy-ltb (λ x. x.author) c.args.columns.now c.args.id (authors-rise 0 c.args.columns.now c.requires)) (λ a r q k. search rules)
