use Rattle.std.proofs.Common.{length}
use Rattle.mr_filter.proofs.Reading.{HasReadConditions}
use Rattle.mr_filter.proofs.read.read_conditions.Given as goal

abbrev pub invariant-loop-condition : goal.invariant-loop-condition
invariant-loop-condition l = HasReadConditions l.fn.text l.rest l.draft

abbrev pub decreases-loop-condition : goal.decreases-loop-condition
decreases-loop-condition l = length l.rest
