use Rattle.std.proofs.Common.{take, ◌∷◌}
use Rattle.mr_concise.proofs.Names.{HasWritten, IsPlainFormatter, flat_map, name_text}
use Rattle.mr_concise.proofs.fragments.ItemsTextDisplay.fmt.Given as goal

-- the items so far are written, each after a comma
abbrev pub invariant-loop-item : goal.invariant-loop-item
invariant-loop-item g l = IsPlainFormatter l.initial.f → HasWritten g.W.Write.write_str_gives l.initial.f (flat_map (λ item. 44 ∷ name_text item) (take l.item-index l.rest)) l.f
