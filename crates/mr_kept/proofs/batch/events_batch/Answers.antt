use Rattle.mr_kept.proofs.Names.{IsOfEntries, contents, entries_of}
use Rattle.mr_kept.proofs.RunLemmas.{next_so_far, whole_so_far}
use Rattle.mr_kept.proofs.RoomLemmas.{err_by, event_over, of_memory}
use Rattle.mr_kept.proofs.batch.events_batch.Goals as goal

pub loop-event-preserved : goal.loop-event-preserved
loop-event-preserved c =
    let now = c.loop-event.batch in
    let next = c.put_event.new.batch in
    next_so_far c.args.issued c.args.events.now c.loop-event.event-index c.event-item.result (contents now.entries.items) (contents next.entries.items) now.issued next.issued now.stream next.stream now.nexts next.nexts
    c.loop-event-test.true c.event-item.is c.loop-event.invariant c.in_ok-put_event.ensures.put

pub returns-clause-spelled : goal.returns-clause-spelled
returns-clause-spelled c =
    let now = c.loop-event.batch in
    whole_so_far c.args.issued c.args.events.now c.loop-event.event-index (contents now.entries.items) (contents c.end_run.new.batch.entries.items) now.issued now.stream now.nexts
    c.loop-event-test.false c.loop-event.invariant c.in_ok-end_run.ensures.put

pub returns-in_err-put_event-clause-fault : goal.returns-in_err-put_event-clause-fault
returns-in_err-put_event-clause-fault c =
    let now = c.loop-event.batch in
    err_by (IsOfEntries (entries_of c.args.issued c.args.events.now)) c.from_residual.result c.in_err-put_event.field-0.0 c.from_residual.ensures.1
    (event_over c.args.issued c.args.events.now c.loop-event.event-index c.event-item.result (contents now.entries.items) now.issued now.stream now.nexts c.in_err-put_event.field-0.0
    c.loop-event-test.true c.event-item.is c.loop-event.invariant c.in_err-put_event.ensures.fault)

pub returns-in_err-end_run-clause-fault : goal.returns-in_err-end_run-clause-fault
returns-in_err-end_run-clause-fault c =
    err_by (IsOfEntries (entries_of c.args.issued c.args.events.now)) c.from_residual-in_err-end_run.result c.in_err-end_run.field-0.0 c.from_residual-in_err-end_run.ensures.1
    (of_memory (entries_of c.args.issued c.args.events.now) c.in_err-end_run.field-0.0 c.in_err-end_run.ensures.fault)
