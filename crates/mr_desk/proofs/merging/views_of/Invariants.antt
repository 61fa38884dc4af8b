use Rattle.std.proofs.Common.{◌≡◌, map, take}
use Rattle.mr_maildir.specs.Policy.{view_of}
use Rattle.mr_desk.proofs.merging.views_of.Given as goal

abbrev pub invariant-loop-message : goal.invariant-loop-message
invariant-loop-message l = l.views.items ≡ map view_of (take l.message-index l.messages)
