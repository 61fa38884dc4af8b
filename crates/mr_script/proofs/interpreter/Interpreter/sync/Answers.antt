use Rattle.mr_script.proofs.Names.{done, err_from_is_err_and, not_begun}
use Rattle.mr_script.proofs.interpreter.Interpreter.sync.Goals as goal

pub returns-in_err-world : goal.returns-in_err-world
returns-in_err-world g c =
    let p = err_from_is_err_and c.from_residual.result c.from_residual.ensures.1 in
    rw (p.1, p.2, c.in_err-world.ensures.unchanged) (not_begun c.in_err-world.ensures.world)

pub returns : goal.returns
returns g c = done c.in_ok-world.ensures.world c.sync_and_tell-told.ensures
