use Rattle.std.proofs.Common.{inr, sym, ◌∙◌}
use Rattle.mr_sync.proofs.vouching.push_answer.Goals as goal

pub returns-clause-one : goal.returns-clause-one
returns-clause-one g c = λ told.
    inr (_, c.in_ok-push.ensures.items, c.version.ensures, sym c.is_answer.ensures ∙ c.if-not-is_answer.false, c.in_ok-is_whole.ensures.whole told c.if-not-branch.false)
