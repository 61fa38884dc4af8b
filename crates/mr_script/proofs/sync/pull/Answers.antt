use Rattle.std.proofs.lemmas.Result.{err_from_is_err_and}
use Rattle.mr_script.proofs.Answering.{pull_answers}
use Rattle.mr_script.proofs.OneEvent.{noted_there, noted_at}
use Rattle.mr_script.proofs.sync.pull.Goals as goal

pub returns-in_err-let_happen : goal.returns-in_err-let_happen
returns-in_err-let_happen g c = let p = err_from_is_err_and c.from_residual.result c.from_residual.ensures.1 in rw (p.1, p.2) (rw c.by.ensures at c.in_err-let_happen.ensures)

pub newest-requires : goal.newest-requires
newest-requires g c = noted_there _ _ c.in_ok-let_happen.ensures

pub session_in-requires : goal.session_in-requires
session_in-requires g c = pull_answers g.K.Knowledge.form _ _ _ _ (noted_at _ _ _ c.newest.ensures (rw c.by.ensures at c.in_ok-let_happen.ensures))

pub returns : goal.returns
returns g c = (c.newest.result.now, noted_at _ _ _ c.newest.ensures (rw c.by.ensures at c.in_ok-let_happen.ensures), c.session_in.ensures)
