use Rattle.std.proofs.Common.{ℕ, length}
use Rattle.mr_filter.proofs.Names.{IsUtf8, NamesTooMany}
use Rattle.mr_filter.proofs.Progress.{HasPassed}
use Rattle.mr_filter.proofs.read.is_crowded.Given as goal

abbrev pub invariant-loop-more : goal.invariant-loop-more
invariant-loop-more l = ((place : ℕ) × HasPassed 124 (λ clause. NamesTooMany clause → ⊥) l.fn.text l.rest place) × IsUtf8 l.rest

abbrev pub decreases-loop-more : goal.decreases-loop-more
decreases-loop-more l = length l.rest
