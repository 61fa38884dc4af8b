use Rattle.std.proofs.Common.{[], ◌∷◌, ap, ◌∙◌}
use Rattle.mr_maildir.proofs.Names.{IfOk-weaker, join_by, join_with_byte}
use Rattle.mr_maildir.proofs.LayoutLemmas.{joined}
use Rattle.mr_maildir.proofs.layout.with_slashes.Goals as goal

pub returns : goal.returns
returns c =
    IfOk-weaker c.join.result _ _
    (λ text is. is ∙ (ap (join_by (λ l. l.now) (47 ∷ [])) c.as_slice.ensures.value ∙ (joined 47 c.in_ok-levels.levels.items ∙ ap (join_with_byte 47) c.in_ok-levels.ensures)))
    c.join.ensures.ok
