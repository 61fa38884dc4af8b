-- What the methods of single events give, as replies.
use Rattle.mr_replica.specs.declared.replica.receive.Received.{Received}
use Rattle.mr_replica.specs.declared.replica.receive.Received.TheVariants as received
use Rattle.mr_replica.specs.declared.event.Reply.{Reply}
use Rattle.mr_replica.specs.declared.event.Reply.TheVariants.{Took, Known, Finished}

-- the reply to a record that was received
abbrev pub received_reply : Received → Reply
received_reply received.Took = Took
received_reply received.Known = Known
received_reply received.Finished = Finished
