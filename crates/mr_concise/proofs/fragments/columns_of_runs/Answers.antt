use Rattle.mr_concise.proofs.AppendLemmas.{next-behind, next-same}
use Rattle.mr_concise.proofs.fragments.columns_of_runs.Goals as goal

pub append_run-requires-clause-behind : goal.append_run-requires-clause-behind
append_run-requires-clause-behind c = next-behind c.args.runs.now c.loop-run.run-index c.run-item.result c.loop-run.columns.items c.requires c.loop-run-test.true c.run-item.is c.loop-run.invariant.0 c.loop-run.invariant.1

pub loop-run-preserved : goal.loop-run-preserved
loop-run-preserved c = ((c.in_ok-append_run.ensures c.if-not-branch.false).0, next-same c.args.runs.now c.loop-run.run-index c.run-item.result c.loop-run.columns.items c.append_run.new.columns.items c.loop-run-test.true c.run-item.is c.loop-run.invariant.1 (c.in_ok-append_run.ensures c.if-not-branch.false).1)
