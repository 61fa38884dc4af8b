use Rattle.std.proofs.Common.{◌++◌, ap, ◌∙◌}
use Rattle.mr_compare.proofs.Names.{Standing, due, standing_of_held}
use Rattle.mr_compare.proofs.CompareLemmas.{due-more}
use Rattle.mr_compare.proofs.compare.push_held.Goals as goal

pub loop-mail-preserved : goal.loop-mail-preserved
loop-mail-preserved c =
    due-more (standing_of_held c.args.sides.now) c.args.mails.now c.loop-mail.mail-index c.mail-item.result c.args.acts.now.items c.loop-mail.acts.items c.push_due.new.acts.items c.loop-mail-test.true c.mail-item.is c.loop-mail.invariant
    (c.in_ok-push_due.ensures ∙ ap (λ (mail : Standing). c.loop-mail.acts.items ++ due mail) c.in_ok-standing_of_held.ensures)
