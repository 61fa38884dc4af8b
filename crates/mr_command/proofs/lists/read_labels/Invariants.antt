use Rattle.std.proofs.Common.{◌≡◌, ◌++◌, length}
use Rattle.mr_command.proofs.Names.{pieces_of, texts_of}
use Rattle.mr_command.proofs.lists.read_labels.Given as goal

abbrev pub invariant-loop-piece : goal.invariant-loop-piece
invariant-loop-piece l = pieces_of 44 l.fn.word ≡ texts_of l.labels.items ++ l.pieces

abbrev pub decreases-loop-piece : goal.decreases-loop-piece
decreases-loop-piece l = length l.pieces
