use Rattle.std.proofs.Common.{rules}
use Rattle.mr_store.proofs.Names.{IsPartitionPoint-from_clause, is_lt, item_of, name_cmp}
use Rattle.mr_store.proofs.OrderLemmas.{parted_below}
use Rattle.mr_store.proofs.fragment_index.place_of.Goals as goal

pub returns-clause-place : goal.returns-clause-place
returns-clause-place c =
    IsPartitionPoint-from_clause (λ l. is_lt (name_cmp l.item c.args.item)) c.args.listings.now c.partition_point.result c.partition_point.ensures.partitioned
    (parted_below item_of c.args.listings.now c.args.item c.requires) (λ a r q k. search rules)
