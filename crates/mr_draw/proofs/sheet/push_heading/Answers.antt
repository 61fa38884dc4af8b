use Rattle.std.proofs.Common.{length, string_bytes}
use Rattle.mr_draw.proofs.Names.{column_of, name_y, named_text, title_text, x_of}
use Rattle.mr_draw.proofs.ListLemmas.{joined2}
use Rattle.mr_draw.proofs.sheet.push_heading.Goals as goal

pub returns : goal.returns
returns c =
    let a = c.args in
    let h = c.heading.inside in
    let title = rw (c.as_str.ensures.value, c.as_str-2.ensures.value) at c.in_ok-push_title.ensures in
    let named = rw (c.x_of-x.ensures.is, c.name_y-y.ensures, c.column_of.ensures.column, c.as_str-3.ensures.value, c.as_str-4.ensures.value) at c.in_ok-push_named.ensures in
    rw (← c.heading.view_is) (joined2 (string_bytes a.svg.now) _ _ (title_text (string_bytes h.name) (string_bytes h.filter_text))
    (named_text (x_of a.lanes.now h.lane) (name_y (length a.lanes.now) (column_of a.lanes.now h.lane)) (string_bytes h.caption) (string_bytes h.label)) title named)
