use Rattle.mr_replica.proofs.PullLemmas.{parts_carried}
use Rattle.mr_replica.proofs.replica.Core.asked.Goals as goal

-- a frame carries each fragment
pub first_fitting-requires : goal.first_fitting-requires
first_fitting-requires g c =
    let are = c.in_ok-fragments.ensures.parts in
    parts_carried are.parts c.in_ok-fragments.fragments.items are.by_part are.are_parts.in_order.listable
