use Rattle.std.proofs.Common.{◌≡◌, length}
use Rattle.mr_command.proofs.Names.{is_label, list_all, pieces_of}
use Rattle.mr_command.proofs.lists.are_labels.Given as goal

abbrev pub invariant-loop-piece : goal.invariant-loop-piece
invariant-loop-piece l = list_all is_label (pieces_of 44 l.fn.word) ≡ list_all is_label l.pieces

abbrev pub decreases-loop-piece : goal.decreases-loop-piece
decreases-loop-piece l = length l.pieces
