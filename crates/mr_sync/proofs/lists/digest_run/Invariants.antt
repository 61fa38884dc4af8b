use Rattle.std.proofs.Common.{◌-◌, ℕ}
use Rattle.mr_sync.proofs.Names.{Running, digest_at}
use Rattle.mr_sync.proofs.ListLaws.{same_place}
use Rattle.mr_sync.proofs.lists.digest_run.Given as goal

abbrev pub invariant-loop : goal.invariant-loop
invariant-loop l = Running (λ (_ : ℕ). digest_at) same_place 0 l.count l.fn.input l.list 0 (l.count - l.counter) l.input (λ _. Unit {0})
