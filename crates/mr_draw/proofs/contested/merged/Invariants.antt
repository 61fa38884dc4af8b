use Rattle.std.proofs.Common.{◌≡◌, flat_map, take}
use Rattle.mr_draw.specs.Contested.{merged_by}
use Rattle.mr_draw.proofs.contested.merged.Given as goal

-- what the events so far merged
abbrev pub invariant-loop-answered : goal.invariant-loop-answered
invariant-loop-answered l = l.merged.items ≡ flat_map merged_by (take l.answered-index l.answers)
