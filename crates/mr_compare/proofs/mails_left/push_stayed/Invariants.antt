use Rattle.std.proofs.Common.{◌≡◌, ◌++◌, take}
use Rattle.mr_compare.specs.MailsLeft.{stayed_views}
use Rattle.mr_compare.proofs.mails_left.push_stayed.Given as goal

abbrev pub invariant-loop-heads : goal.invariant-loop-heads
invariant-loop-heads l = l.views.items ≡ l.fn.views.items ++ stayed_views l.left.changed.entries (take l.heads-index l.items)
