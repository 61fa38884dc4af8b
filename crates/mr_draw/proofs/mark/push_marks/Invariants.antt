use Rattle.std.proofs.Common.{◌≡◌, ◌++◌, flat_map, string_bytes, take}
use Rattle.mr_draw.specs.Mark.{mark_text}
use Rattle.mr_draw.proofs.mark.push_marks.Given as goal

abbrev pub invariant-loop-mark : goal.invariant-loop-mark
invariant-loop-mark l = string_bytes l.svg ≡ string_bytes l.fn.svg ++ flat_map (mark_text l.lanes) (take l.mark-index l.marks)
