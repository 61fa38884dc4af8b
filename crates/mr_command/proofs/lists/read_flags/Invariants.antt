use Rattle.std.proofs.Common.{◌≡◌, List, length}
use Rattle.mr_mail.specs.declared.flags.Flag.{Flag}
use Rattle.mr_command.proofs.Names.{flag_name, pieces_of, united}
use Rattle.mr_command.proofs.PieceLemmas.{NamedSoFar}
use Rattle.mr_command.proofs.lists.read_flags.Given as goal

abbrev pub invariant-loop-piece : goal.invariant-loop-piece
invariant-loop-piece l = (flags : List Flag) × NamedSoFar flag_name (λ _. Unit {0}) (pieces_of 43 l.fn.word) l.pieces flags × (l.set ≡ united flags)

abbrev pub decreases-loop-piece : goal.decreases-loop-piece
decreases-loop-piece l = length l.pieces
