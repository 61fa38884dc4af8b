use Rattle.std.proofs.Common.{◌≡◌, map, take}
use Rattle.mr_mail.specs.declared.flags.Flag.{Flag}
use Rattle.mr_joins.specs.declared.element.Element.TheVariants as element
use Rattle.mr_joins.proofs.editing.elements_of_flags.Given as goal

-- the flags so far as elements
abbrev pub invariant-loop-flag : goal.invariant-loop-flag
invariant-loop-flag l = l.elements.items ≡ map (λ (f : Flag). element.Flag f) (take l.flag-index l.flags)
