use Rattle.mr_wire.proofs.MessageLemmas.{if_labels, stands_message}
use Rattle.mr_wire.proofs.message.message.Goals as goal

pub message_of-requires : goal.message_of-requires
message_of-requires c = if_labels c.in_ok-labels.ensures

pub returns : goal.returns
returns c =
    stands_message c.args.input.now c.text.new.input c.text-2.new.input c.message_body.new.input c.labels.new.input c.flags.new.input c.u16.new.self
    c.in_ok-from.from.now c.in_ok-subject.subject.now c.in_ok-body.body.now c.in_ok-labels.labels c.in_ok-labels.field-0-1 c.in_ok-flags.flags c.in_ok-day.day c.message_of.result
    c.in_ok-from.ensures c.in_ok-subject.ensures c.in_ok-body.ensures c.in_ok-labels.ensures c.in_ok-flags.ensures c.in_ok-day.ensures (rw c.new-day.ensures at c.message_of.ensures)
