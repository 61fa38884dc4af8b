use Rattle.std.proofs.Common.{List, length}
use Rattle.mr_command.proofs.Names.{IsVersionName, Name, name_text, pieces_of}
use Rattle.mr_command.proofs.PieceLemmas.{NamedSoFar}
use Rattle.mr_command.proofs.lists.are_versions.Given as goal

abbrev pub invariant-loop-piece : goal.invariant-loop-piece
invariant-loop-piece l = (versions : List Name) × NamedSoFar name_text IsVersionName (pieces_of 44 l.fn.word) l.pieces versions

abbrev pub decreases-loop-piece : goal.decreases-loop-piece
decreases-loop-piece l = length l.pieces
