use Rattle.std.proofs.Common.{inl, inr, refl, ap, Ok}
use Rattle.std.proofs.lemmas.Result.{err_from_is_err_and}
use Rattle.mr_script.proofs.Following.{ends_text_at}
use Rattle.mr_script.proofs.OneEvent.{noted_there, happened_told}
use Rattle.mr_script.proofs.single_event.answer_of_event.Goals as goal

pub returns-in_err-let_happen : goal.returns-in_err-let_happen
returns-in_err-let_happen g c = ends_text_at _ _ _ c.from_residual.result c.from_residual.ensures.1 c.in_err-let_happen.ensures

pub newest-requires : goal.newest-requires
newest-requires g c = noted_there _ _ c.in_ok-let_happen.ensures

pub returns-in_err-answer_line : goal.returns-in_err-answer_line
returns-in_err-answer_line g c =
    let p = err_from_is_err_and c.from_residual-in_err-answer_line.result c.from_residual-in_err-answer_line.ensures.1 in
    rw (p.1, p.2) (happened_told g.K.Knowledge.form _ _ _ _ _ c.newest.ensures c.in_ok-let_happen.ensures (inr refl))

pub returns : goal.returns
returns g c = happened_told g.K.Knowledge.form _ _ _ _ _ c.newest.ensures c.in_ok-let_happen.ensures (inl (ap Ok (rw c.pool_sizes.ensures at c.in_ok-answer_line.ensures)))
