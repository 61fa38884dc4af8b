use Rattle.mr_settle.proofs.Names.{FindsLeftTo, done_of}
use Rattle.mr_settle.proofs.join.first_left.Given as goal

abbrev pub invariant-loop-place : goal.invariant-loop-place
invariant-loop-place g l = FindsLeftTo l.ends (done_of l.progress) l.place l.first
