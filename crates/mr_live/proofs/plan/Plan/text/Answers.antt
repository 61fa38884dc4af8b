use Rattle.std.proofs.Common.{◌∙◌, sym}
use Rattle.std.proofs.lemmas.Result.{err_from_is_err_and}
use Rattle.mr_live.specs.Plan.TextAsks.{skipped, unknown, not_read, done}
use Rattle.mr_live.proofs.plan.Plan.text.Goals as goal

pub returns-then-is_skipped : goal.returns-then-is_skipped
returns-then-is_skipped c = skipped (sym c.is_skipped.ensures ∙ c.if-is_skipped.true)

pub returns-then-not-is_live_line : goal.returns-then-not-is_live_line
returns-then-not-is_live_line c = unknown (sym c.is_skipped.ensures ∙ c.if-is_skipped.false) (sym c.is_live_line.ensures ∙ c.if-not-is_live_line.true)

pub returns-in_err-command : goal.returns-in_err-command
returns-in_err-command c =
    let p = err_from_is_err_and c.from_residual.result c.from_residual.ensures.1 in
    rw (p.1, p.2) (not_read (sym c.is_skipped.ensures ∙ c.if-is_skipped.false) (sym c.is_live_line.ensures ∙ c.if-not-is_live_line.false) c.in_err-command.ensures.exact)

pub returns : goal.returns
returns c = done c.in_ok-command.command (sym c.is_skipped.ensures ∙ c.if-is_skipped.false) (sym c.is_live_line.ensures ∙ c.if-not-is_live_line.false) c.in_ok-command.ensures.exact c.add.ensures
