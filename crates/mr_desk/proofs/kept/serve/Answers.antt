use Rattle.std.proofs.lemmas.Result.{err_from_is_err_and}
use Rattle.mr_desk.proofs.KeptLemmas.{untaken-call}
use Rattle.mr_desk.proofs.ReadingLemmas.{kept-unread}
use Rattle.mr_desk.proofs.kept.serve.Goals as goal

pub returns-in_err-event : goal.returns-in_err-event
returns-in_err-event c =
    let p = err_from_is_err_and c.from_residual.result c.from_residual.ensures.1 in
    rw (p.1, p.2) (kept-unread c.args.kept.now c.args.call.now _ c.in_err-event.ensures)

pub returns-in-Ok : goal.returns-in-Ok
returns-in-Ok c = (c.in_ok-event.ensures.0, c.in_ok-event.event, c.in_ok-event.ensures.1, c.in-Ok.ensures)

pub returns-in-Err : goal.returns-in-Err
returns-in-Err c = rw c.from.ensures (untaken-call c.args.kept.now c.tell.new.kept c.args.call.now c.in_ok-event.event c.in-Err.fault c.in_ok-event.ensures c.in-Err.ensures)
