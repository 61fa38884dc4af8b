use Rattle.std.proofs.Common.{◌-◌}
use Rattle.mr_wire.proofs.Names.{AreIn, column_at}
use Rattle.mr_wire.proofs.RunLemmas.{Running}
use Rattle.mr_wire.proofs.PartLaws.{after_column}
use Rattle.mr_wire.proofs.vector.columns.Given as goal

abbrev pub invariant-loop : goal.invariant-loop
invariant-loop l =
    Running column_at after_column 0 l.count l.fn.input l.columns l.low (l.count - l.counter) l.input (AreIn l.watch l.seen)
