use Rattle.std.proofs.Common.{◌≡◌, take}
use Rattle.mr_maildir.proofs.Names.{flat_map, without_return}
use Rattle.mr_maildir.proofs.header.unfolded.Given as goal

abbrev pub invariant-loop-line : goal.invariant-loop-line
invariant-loop-line l = l.field.items ≡ flat_map (λ line. without_return line.now) (take l.line-index l.lines)
