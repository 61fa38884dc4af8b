use Rattle.std.proofs.Common.{rules}
use Rattle.mr_session.proofs.Names.{IsPartitionPoint-from_clause, is_before, parted_below, sorted_by_name, version_of}
use Rattle.mr_session.proofs.due.place_before.Goals as goal

pub returns-clause-place : goal.returns-clause-place
returns-clause-place c =
    IsPartitionPoint-from_clause (λ r. is_before r.version (record { author = c.args.author; counter = c.args.counter })) c.args.revisions.now c.partition_point.result c.partition_point.ensures.partitioned
    (parted_below version_of c.args.revisions.now (record { author = c.args.author; counter = c.args.counter }) (sorted_by_name version_of c.args.revisions.now c.requires)) (λ a r q k. search rules)
