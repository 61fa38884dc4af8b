use Rattle.std.proofs.Common.{◌≡◌, ◌++◌}
use Rattle.mr_kept.proofs.Names.{Next, replicate}
use Rattle.mr_kept.proofs.gather.put_run.Given as goal

abbrev pub invariant-loop : goal.invariant-loop
invariant-loop l = l.events.items ≡ l.fn.events.items ++ replicate l.counter (Next l.stream)
