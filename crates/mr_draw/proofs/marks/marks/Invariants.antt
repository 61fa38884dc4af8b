use Rattle.std.proofs.Common.{take}
use Rattle.mr_draw.specs.Sign.{AreMarksOf}
use Rattle.mr_draw.proofs.marks.marks.Given as goal

-- the happenings so far have their marks
abbrev pub invariant-loop-row : goal.invariant-loop-row
invariant-loop-row g l = AreMarksOf l.scene.world.now l.scene.happenings.now l.shown l.scene.contested.now 0 (take l.row l.shown) l.marks.items
