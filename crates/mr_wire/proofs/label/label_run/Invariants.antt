use Rattle.std.proofs.Common.{◌-◌, None}
use Rattle.std.specs.Option.{option_copied}
use Rattle.mr_wire.proofs.Names.{label_at, next_label}
use Rattle.mr_wire.proofs.RunLemmas.{Running}
use Rattle.mr_wire.proofs.label.label_run.Given as goal

abbrev pub invariant-loop : goal.invariant-loop
invariant-loop l =
    Running label_at next_label None l.count l.fn.input l.labels (option_copied l.before) (l.count - l.counter) l.input (λ _. Unit {0})
