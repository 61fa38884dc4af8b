use Rattle.std.proofs.Common.{◌-◌, ℕ}
use Rattle.mr_entry.proofs.Names.{Running, name_at}
use Rattle.mr_entry.proofs.EventLaws.{same_place}
use Rattle.mr_entry.proofs.event.bases.version_run.Given as goal

abbrev pub invariant-loop : goal.invariant-loop
invariant-loop l = Running (λ (_ : ℕ). name_at) same_place 0 l.count l.fn.input l.versions 0 (l.count - l.counter) l.input (λ _. Unit {0})
