use Rattle.std.proofs.Common.{◌-◌, ℕ}
use Rattle.mr_wire.specs.Parts.{clause_at}
use Rattle.mr_wire.proofs.FilterLaws.{same_clause}
use Rattle.mr_wire.proofs.RunLemmas.{Running}
use Rattle.mr_wire.proofs.filter.clauses.Given as goal

abbrev pub invariant-loop : goal.invariant-loop
invariant-loop l =
    Running (λ (_ : ℕ). clause_at) same_clause 0 l.count l.fn.input l.clauses 0 (l.count - l.counter) l.input (λ _. Unit {0})
