use Rattle.std.proofs.Common.{◌≡◌, length}
use Rattle.mr_maildir.proofs.Names.{IsUtf8, told_by}
use Rattle.mr_maildir.proofs.told.told.Given as goal

abbrev pub invariant-loop-line : goal.invariant-loop-line
invariant-loop-line l = (told_by l.key l.lines ≡ told_by l.key l.rest) × IsUtf8 l.rest

abbrev pub decreases-loop-line : goal.decreases-loop-line
decreases-loop-line l = length l.rest
