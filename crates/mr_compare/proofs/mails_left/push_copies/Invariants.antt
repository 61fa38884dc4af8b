use Rattle.std.proofs.Common.{◌≡◌, ◌++◌, take}
use Rattle.mr_compare.proofs.mails_left.push_copies.Given as goal

abbrev pub invariant-loop-view : goal.invariant-loop-view
invariant-loop-view l = l.views.items ≡ l.fn.views.items ++ take l.view-index l.more
