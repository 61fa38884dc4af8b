use Rattle.std.proofs.Common.{length}
use Rattle.mr_command.proofs.Names.{IsVersionName, name_text, pieces_of}
use Rattle.mr_command.proofs.PieceLemmas.{NamedSoFar}
use Rattle.mr_command.proofs.lists.versions_named.Given as goal

abbrev pub invariant-loop-piece : goal.invariant-loop-piece
invariant-loop-piece l = NamedSoFar name_text IsVersionName (pieces_of 44 l.fn.word) l.pieces l.versions.items

abbrev pub decreases-loop-piece : goal.decreases-loop-piece
decreases-loop-piece l = length l.pieces
