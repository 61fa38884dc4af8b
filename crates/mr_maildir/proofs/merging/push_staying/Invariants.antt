use Rattle.std.proofs.Common.{◌≡◌, ◌++◌, take}
use Rattle.mr_maildir.proofs.Names.{filter, stays_in, with_say}
use Rattle.mr_maildir.proofs.merging.push_staying.Given as goal

abbrev pub invariant-loop-label : goal.invariant-loop-label
invariant-loop-label l =
    l.labels.items ≡ l.fn.labels.items ++ filter (stays_in l.ancestor (with_say l.gone l.heads)) (take l.label-index l.label-items)
