use Rattle.std.proofs.Common.{take, ◌∷◌}
use Rattle.mr_concise.proofs.Names.{HasWritten, IsPlainFormatter, flat_map, fragment_text}
use Rattle.mr_concise.proofs.fragments.KnowledgeTextDisplay.fmt.Given as goal

-- the fragments so far are written, each after a semicolon and a space
abbrev pub invariant-loop-fragment : goal.invariant-loop-fragment
invariant-loop-fragment g l = IsPlainFormatter l.initial.f → HasWritten g.W.Write.write_str_gives l.initial.f (flat_map (λ fragment. 59 ∷ 32 ∷ fragment_text fragment) (take l.fragment-index l.rest)) l.f
