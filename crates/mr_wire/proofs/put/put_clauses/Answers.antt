use Rattle.mr_wire.specs.Spelling.{clause_bytes}
use Rattle.mr_wire.proofs.PutLemmas.{run_more}
use Rattle.mr_wire.proofs.put.put_clauses.Goals as goal

pub loop-clause-preserved : goal.loop-clause-preserved
loop-clause-preserved c = run_more clause_bytes c.args.clauses.now c.loop-clause.clause-index c.clause-item.result c.args.out.now.items _ _ c.loop-clause.invariant c.loop-clause-test.true c.clause-item.is c.in_ok-put_clause.ensures
