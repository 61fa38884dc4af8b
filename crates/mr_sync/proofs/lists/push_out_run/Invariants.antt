use Rattle.std.proofs.Common.{◌-◌, ℕ}
use Rattle.mr_sync.proofs.Names.{Running, push_out_at}
use Rattle.mr_sync.proofs.ListLaws.{same_place}
use Rattle.mr_sync.proofs.lists.push_out_run.Given as goal

abbrev pub invariant-loop : goal.invariant-loop
invariant-loop l = Running (λ (_ : ℕ). push_out_at) same_place 0 l.count l.fn.input l.list 0 (l.count - l.counter) l.input (λ _. Unit {0})
