use Rattle.std.proofs.Common.{◌≡◌, flat_map, take}
use Rattle.mr_draw.specs.Lines.{lines_of}
use Rattle.mr_draw.proofs.lines.lines.Given as goal

-- the lanes so far have their lines
abbrev pub invariant-loop-lane : goal.invariant-loop-lane
invariant-loop-lane l = l.lines.items ≡ flat_map (lines_of l.shown) (take l.lane-index l.lanes)
