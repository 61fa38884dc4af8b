use Rattle.std.proofs.Common.{rules}
use Rattle.mr_session.proofs.Names.{IsPartitionPoint-from_clause, is_le, name_cmp, parted_up_to, sorted_by_name, version_of}
use Rattle.mr_session.proofs.due.place_behind.Goals as goal

pub returns-clause-place : goal.returns-clause-place
returns-clause-place c = IsPartitionPoint-from_clause (λ r. is_le (name_cmp r.version c.args.past)) c.args.revisions.now c.partition_point.result c.partition_point.ensures.partitioned (parted_up_to version_of c.args.revisions.now c.args.past (sorted_by_name version_of c.args.revisions.now c.requires)) (λ a r q k. search rules)
