use Rattle.std.proofs.Common.{◌<◌, length, arith}
use Rattle.mr_maildir.proofs.Names.{link_in, mail_in}
use Rattle.mr_maildir.proofs.PlanLemmas.{one_more}
use Rattle.mr_maildir.proofs.plan.MailNames.push_links.Goals as goal

pub loop-label-preserved : goal.loop-label-preserved
loop-label-preserved c =
    let below : c.loop-label.label-index < length c.args.labels.now = omega arith in
    one_more (link_in (mail_in c.args.self.now)) c.args.acts.now.items c.loop-label.acts.items c.push_link.new.acts.items c.args.labels.now c.loop-label.label-index c.label-item.result below c.label-item.is c.loop-label.invariant c.in_ok-push_link.ensures
