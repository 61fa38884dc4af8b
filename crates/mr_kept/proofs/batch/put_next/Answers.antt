use Rattle.std.proofs.Common.{arith, sym}
use Rattle.mr_kept.proofs.Names.{IsOfEvent, Next, contents}
use Rattle.mr_kept.proofs.RunLemmas.{run_changes, run_grows}
use Rattle.mr_kept.proofs.RoomLemmas.{err_by, event_of_memory}
use Rattle.mr_kept.proofs.batch.put_next.Goals as goal

pub returns-then-batch-stream-clause-put : goal.returns-then-batch-stream-clause-put
returns-then-batch-stream-clause-put c = λ issued events so_far.
    let old = c.args.batch.now in
    run_changes issued events (contents old.entries.items) (contents c.end_run.new.batch.entries.items) old.issued c.end_run.new.batch.issued old.stream c.args.stream old.nexts c.if-batch-stream.true so_far
    c.in_ok-end_run.ensures.issued c.in_ok-end_run.ensures.put

pub returns-in-Some-clause-put : goal.returns-in-Some-clause-put
returns-in-Some-clause-put c = λ issued events so_far.
    let old = c.args.batch.now in
    run_grows issued events (contents old.entries.items) old.issued old.stream c.args.stream old.nexts c.in-Some.nexts c.if-batch-stream.false c.in-Some.ensures.1 so_far

pub returns-in_err-end_run-clause-fault : goal.returns-in_err-end_run-clause-fault
returns-in_err-end_run-clause-fault c =
    let old = c.args.batch.now in
    err_by (IsOfEvent old.issued old.stream old.nexts (Next c.args.stream)) c.from_residual.result c.in_err-end_run.field-0.0 c.from_residual.ensures.1
    (event_of_memory old.issued old.stream old.nexts (Next c.args.stream) c.in_err-end_run.field-0.0 c.in_err-end_run.ensures.fault)

pub returns-in-None-clause-fault : goal.returns-in-None-clause-fault
returns-in-None-clause-fault c = (sym c.if-batch-stream.false, omega (arith, c.in-None.ensures))
