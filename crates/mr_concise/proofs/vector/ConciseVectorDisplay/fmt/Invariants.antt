use Rattle.std.proofs.Common.{take, ◌∷◌}
use Rattle.mr_concise.proofs.Names.{HasWritten, IsPlainFormatter, column_text, flat_map}
use Rattle.mr_concise.proofs.vector.ConciseVectorDisplay.fmt.Given as goal

-- the columns so far are written, each after a comma
abbrev pub invariant-loop-x : goal.invariant-loop-x
invariant-loop-x g l = IsPlainFormatter l.initial.f → HasWritten g.W.Write.write_str_gives l.initial.f (flat_map (λ y. 44 ∷ column_text y) (take l.x-index l.rest)) l.f
