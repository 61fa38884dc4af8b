use Rattle.std.proofs.Common.{length, map, ◌≤◌}
use Rattle.mr_command.specs.List.{pieces_of}
use Rattle.mr_command.proofs.LabelLemmas.{SeenSoFar}
use Rattle.mr_command.proofs.lists.are_too_many_labels.Given as goal

abbrev pub invariant-loop-piece : goal.invariant-loop-piece
invariant-loop-piece l = SeenSoFar (pieces_of 44 l.fn.word) l.pieces (map (λ text. text.now) l.seen.items) × (length l.seen.items ≤ 16)

abbrev pub decreases-loop-piece : goal.decreases-loop-piece
decreases-loop-piece l = length l.pieces
