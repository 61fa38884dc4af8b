use Rattle.std.proofs.Common.{◌≡◌, take}
use Rattle.mr_maildir.proofs.Names.{filter, flat_map, stays_in, with_say}
use Rattle.mr_maildir.proofs.merging.staying_labels.Given as goal

abbrev pub invariant-loop-head : goal.invariant-loop-head
invariant-loop-head l =
    l.labels.items ≡ filter (stays_in l.ancestor (with_say l.gone l.heads)) (flat_map (λ head. head.labels) (with_say l.gone (take l.head-index l.heads)))
