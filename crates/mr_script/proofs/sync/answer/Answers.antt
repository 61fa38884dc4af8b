use Rattle.std.proofs.lemmas.Result.{err_from_is_err_and}
use Rattle.mr_script.proofs.Answering.{answer_answers}
use Rattle.mr_script.proofs.OneEvent.{noted_there, noted_at}
use Rattle.mr_script.proofs.sync.answer.Goals as goal

pub returns-in_err-let_happen : goal.returns-in_err-let_happen
returns-in_err-let_happen g c =
    let p = err_from_is_err_and c.from_residual.result c.from_residual.ensures.1 in
    rw (p.1, p.2) (rw (c.by.ensures, c.ask_count-newest_ask.ensures) at c.in_err-let_happen.ensures)

pub newest-requires : goal.newest-requires
newest-requires g c = noted_there _ _ c.in_ok-let_happen.ensures

pub stream_in-requires : goal.stream_in-requires
stream_in-requires g c = answer_answers g.K.Knowledge.form _ _ _ _ _ (noted_at _ _ _ c.newest.ensures (rw c.by.ensures at c.in_ok-let_happen.ensures))

pub returns : goal.returns
returns g c =
    let happened = rw (c.by.ensures, c.ask_count-newest_ask.ensures) at c.in_ok-let_happen.ensures in
    (c.newest.result.now, noted_at _ _ _ c.newest.ensures happened, c.stream_in.ensures)
