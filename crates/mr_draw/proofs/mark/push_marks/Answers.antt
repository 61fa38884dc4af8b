use Rattle.std.proofs.Common.{string_bytes, arith}
use Rattle.mr_draw.specs.Mark.{mark_text}
use Rattle.mr_draw.proofs.ListLemmas.{flat_map-pushed}
use Rattle.mr_draw.proofs.mark.push_marks.Goals as goal

pub loop-mark-preserved : goal.loop-mark-preserved
loop-mark-preserved c =
    flat_map-pushed (mark_text c.args.lanes.now) (string_bytes c.args.svg.now) c.args.marks.now c.loop-mark.mark-index c.mark-item.result _ _
    (omega arith) c.mark-item.is c.loop-mark.invariant c.in_ok-push_mark.ensures
