use Rattle.std.proofs.Common.{string_bytes, arith}
use Rattle.mr_draw.specs.Sheet.{heading_text}
use Rattle.mr_draw.proofs.ListLemmas.{flat_map-pushed}
use Rattle.mr_draw.proofs.sheet.push_headings.Goals as goal

pub loop-heading-preserved : goal.loop-heading-preserved
loop-heading-preserved c =
    flat_map-pushed (heading_text c.args.lanes.now) (string_bytes c.args.svg.now) c.args.headings.now c.loop-heading.heading-index c.heading-item.result _ _
    (omega arith) c.heading-item.is c.loop-heading.invariant c.in_ok-push_heading.ensures
