use Rattle.mr_draw.proofs.sheet.text_of.Goals as goal

pub returns : goal.returns
returns c =
    rw (← c.sheet.view_is) (rw (c.new-svg.ensures.bytes, c.as_slice-lanes.ensures.value, c.as_slice-headings.ensures.value, c.as_slice-lines.ensures.value, c.as_slice-marks.ensures.value) at c.in_ok-push_parts.ensures)
