use Rattle.std.proofs.Common.{ℕ, ◌≤◌, ◌<◌}
use Rattle.mr_settle.proofs.Names.{Rests, done_of, given_by}
use Rattle.mr_settle.proofs.ready.first_ready.Given as goal

abbrev pub invariant-loop-place : goal.invariant-loop-place
invariant-loop-place g l = (place : ℕ) → l.fn.from ≤ place → place < l.place → Rests l.ends (given_by l.given) (done_of l.progress) place
