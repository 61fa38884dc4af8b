use Rattle.std.proofs.Common.{◌≡◌, take}
use Rattle.mr_desk.specs.Merge.{heads_of}
use Rattle.mr_desk.proofs.merging.heads_of.Given as goal

abbrev pub invariant-loop-head : goal.invariant-loop-head
invariant-loop-head l = l.own.items ≡ heads_of l.item (take l.head-index l.heads)
