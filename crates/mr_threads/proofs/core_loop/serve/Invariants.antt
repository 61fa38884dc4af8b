use Rattle.mr_threads.proofs.Names.{KeepsLanes, Serving}
use Rattle.mr_threads.proofs.core_loop.serve.Given as goal

abbrev pub invariant-loop : goal.invariant-loop
invariant-loop g l = record {
  served : Serving g.M.Machine.steps g.M.Machine.feed_of l.fn.core l.core;
  lanes : KeepsLanes l.fn.core l.core;
}
