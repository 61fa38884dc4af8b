use Rattle.mr_world.proofs.task.task_of.Goals as goal

pub receive-requires : goal.receive-requires
receive-requires c = rw c.records.ensures c.requires.records

pub deliver_part-requires : goal.deliver_part-requires
deliver_part-requires c = rw c.records-in-DeliverPart.ensures c.requires.records

pub answer-requires : goal.answer-requires
answer-requires c = rw c.asks.ensures c.requires.asks

pub release-requires : goal.release-requires
release-requires c = rw c.receipts.ensures c.requires.receipts
