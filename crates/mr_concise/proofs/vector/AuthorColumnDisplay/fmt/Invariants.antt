use Rattle.std.proofs.Common.{take}
use Rattle.mr_concise.proofs.Names.{HasWritten, IsPlainFormatter, flat_map, hole_text}
use Rattle.mr_concise.proofs.vector.AuthorColumnDisplay.fmt.Given as goal

-- the holes so far are written
abbrev pub invariant-loop-hole : goal.invariant-loop-hole
invariant-loop-hole g l = IsPlainFormatter l.initial.f → HasWritten g.W.Write.write_str_gives l.initial.f (flat_map hole_text (take l.hole-index l.hole-items)) l.f
