use Rattle.std.proofs.Common.{◌+◌, ◌/◌, nat_lt, string_bytes}
use Rattle.mr_draw.specs.Mark.{drawn_text, label_at, label_down_of, label_right_of, line_text}
use Rattle.mr_draw.proofs.ListLemmas.{joined3}
use Rattle.mr_draw.proofs.mark.push_shape.Goals as goal

pub returns : goal.returns
returns c =
    let a = c.args in
    let h3 = rw (c.label_right.ensures.result_is, c.label_down.ensures.result_is) at c.in_ok-push_label_place.ensures in
    joined3 (string_bytes a.svg.now) _ _ _ (line_text a.x a.y a.other_x a.last_y) (drawn_text a.look (nat_lt a.x a.other_x))
    (label_at ((a.x + a.other_x) / 2 + label_right_of a.look.shape) (a.y + label_down_of a.look.shape))
    c.in_ok-push_line.ensures c.in_ok-push_pen.ensures h3
