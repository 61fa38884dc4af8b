use Rattle.std.proofs.Common.{◌∙◌, sym}
use Rattle.std.proofs.lemmas.Result.{err_from_is_err_and}
use Rattle.mr_script.specs.Run.TextDoes.{skipped, not_read, done}
use Rattle.mr_script.proofs.interpreter.Interpreter.text.Goals as goal

pub returns-then-is_skipped : goal.returns-then-is_skipped
returns-then-is_skipped g c = rw c.new.ensures.bytes (skipped (sym c.is_skipped.ensures ∙ c.if-is_skipped.true))

pub returns-in_err-command : goal.returns-in_err-command
returns-in_err-command g c =
    let p = err_from_is_err_and c.from_residual.result c.from_residual.ensures.1 in
    rw (p.1, p.2) (not_read (sym c.is_skipped.ensures ∙ c.if-is_skipped.false) c.in_err-command.ensures.exact)

pub returns : goal.returns
returns g c = done c.in_ok-command.command (sym c.is_skipped.ensures ∙ c.if-is_skipped.false) c.in_ok-command.ensures.exact c.obey.ensures
