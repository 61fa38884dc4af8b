use Rattle.std.proofs.Common.{length}
use Rattle.mr_filter.proofs.Names.{IsCondition, IsUtf8}
use Rattle.mr_filter.proofs.Progress.{HasPassed}
use Rattle.mr_filter.proofs.pieces.first_bad_piece.Given as goal

abbrev pub invariant-loop-piece : goal.invariant-loop-piece
invariant-loop-piece l = HasPassed 38 IsCondition l.fn.clause l.rest l.place × IsUtf8 l.rest

abbrev pub decreases-loop-piece : goal.decreases-loop-piece
decreases-loop-piece l = length l.rest
