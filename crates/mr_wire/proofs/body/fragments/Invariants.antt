use Rattle.std.proofs.Common.{◌-◌, None}
use Rattle.mr_wire.specs.FrameParts.{asked_at, next_asked}
use Rattle.mr_wire.proofs.RunLemmas.{Running}
use Rattle.mr_wire.proofs.body.fragments.Given as goal

abbrev pub invariant-loop : goal.invariant-loop
invariant-loop l =
    Running asked_at next_asked None l.count l.fn.input l.fragments l.before (l.count - l.counter) l.input (λ _. Unit {0})
