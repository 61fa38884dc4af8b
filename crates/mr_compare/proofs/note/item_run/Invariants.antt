use Rattle.std.proofs.Common.{◌-◌, ℕ}
use Rattle.mr_wire.specs.Parts.{name_at}
use Rattle.mr_wire.proofs.RunLemmas.{Running}
use Rattle.mr_compare.proofs.NoteLaws.{same_place}
use Rattle.mr_compare.proofs.note.item_run.Given as goal

abbrev pub invariant-loop : goal.invariant-loop
invariant-loop l = Running (λ (_ : ℕ). name_at) same_place 0 l.count l.fn.input l.items 0 (l.count - l.counter) l.input (λ _. Unit {0})
