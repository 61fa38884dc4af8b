use Rattle.mr_draw.specs.Ends.{IsWithin}
use Rattle.mr_draw.proofs.ends.last_row_of_push_out.Given as goal

abbrev pub invariant-loop-at : goal.invariant-loop-at
invariant-loop-at l = IsWithin l.shown l.row l.last
