use Rattle.std.proofs.Common.{◌<◌, length, arith}
use Rattle.mr_maildir.proofs.Names.{mail_in, remove_of}
use Rattle.mr_maildir.proofs.PlanLemmas.{one_more}
use Rattle.mr_maildir.proofs.plan.MailNames.push_removes.Goals as goal

pub loop-file-preserved : goal.loop-file-preserved
loop-file-preserved c =
    let below : c.loop-file.file-index < length c.args.self.now.seen.now = omega arith in
    one_more (remove_of (mail_in c.args.self.now) c.args.labels.now) c.args.acts.now.items c.loop-file.acts.items c.push_remove.new.acts.items c.args.self.now.seen.now c.loop-file.file-index c.file-item.result below c.file-item.is c.loop-file.invariant c.in_ok-push_remove.ensures
