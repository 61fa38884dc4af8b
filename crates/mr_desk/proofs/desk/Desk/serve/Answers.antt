use Rattle.std.proofs.lemmas.Result.{err_from_is_err_and}
use Rattle.mr_desk.proofs.ReadingLemmas.{answers-unread}
use Rattle.mr_desk.proofs.desk.Desk.serve.Goals as goal

pub returns-in_err-event : goal.returns-in_err-event
returns-in_err-event c =
    let p = err_from_is_err_and c.from_residual.result c.from_residual.ensures.1 in
    rw (p.1, p.2) (answers-unread c.args.self.now c.args.call.now _ c.in_err-event.ensures)
