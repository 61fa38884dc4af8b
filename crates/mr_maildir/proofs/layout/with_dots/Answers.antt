use Rattle.std.proofs.Common.{[], ◌∷◌, ap, ◌∙◌}
use Rattle.mr_maildir.proofs.Names.{IfOk-weaker, join_by, join_with_byte}
use Rattle.mr_maildir.proofs.LayoutLemmas.{joined}
use Rattle.mr_maildir.proofs.layout.with_dots.Goals as goal

pub returns : goal.returns
returns c =
    IfOk-weaker c.join.result _ _
    (λ text is. is ∙ (ap (join_by (λ l. l.now) (46 ∷ [])) c.as_slice.ensures.value ∙ (joined 46 c.in_ok-levels.levels.items ∙ ap (join_with_byte 46) c.in_ok-levels.ensures)))
    c.join.ensures.ok
