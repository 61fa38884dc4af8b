use Rattle.std.proofs.Common.{◌≡◌, ◌++◌, map, take}
use Rattle.std.specs.Prelude.{List, ℕ}
use Rattle.mr_joins.specs.declared.element.Element.TheVariants as element
use Rattle.mr_joins.specs.Edited.{flag_elements}
use Rattle.mr_joins.proofs.editing.elements_of.Given as goal

-- the flags, and the folders so far
abbrev pub invariant-loop-label : goal.invariant-loop-label
invariant-loop-label l = l.elements.items ≡ flag_elements l.fn.flags ++ map (λ (k : List ℕ). element.Folder k) (take l.label-index l.labels)
