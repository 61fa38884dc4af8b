use Rattle.std.proofs.Common.{◌≡◌, take}
use Rattle.mr_desk.specs.Merge.{said_by}
use Rattle.mr_desk.proofs.merging.messages_of.Given as goal

abbrev pub invariant-loop-head : goal.invariant-loop-head
invariant-loop-head l = l.messages.items ≡ said_by (take l.head-index l.heads)
