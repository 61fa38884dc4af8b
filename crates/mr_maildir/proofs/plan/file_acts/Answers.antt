use Rattle.mr_maildir.proofs.Names.{mail_of, on_ok_weaker}
use Rattle.mr_maildir.proofs.PlanLemmas.{acts_leave, standing-tell, stays_untouched}
use Rattle.mr_maildir.proofs.MomentLemmas.{always_some, nothing_overwritten}
use Rattle.mr_maildir.proofs.plan.file_acts.Goals as goal

pub returns-clause-files : goal.returns-clause-files
returns-clause-files c =
    acts_leave (mail_of c.args.seen.now c.args.view.now.flags c.args.told.now c.args.digest.now c.args.taken.now) c.args.view.now.labels c.flags-flags.ensures.kept.flags_in

pub returns-clause-flags : goal.returns-clause-flags
returns-clause-flags c =
    standing-tell (mail_of c.args.seen.now c.args.view.now.flags c.args.told.now c.args.digest.now c.args.taken.now) c.args.view.now.labels c.flags-flags.ensures.kept.flags_in

pub returns-clause-untouched : goal.returns-clause-untouched
returns-clause-untouched c = λ file has stands.
    stays_untouched (mail_of c.args.seen.now c.args.view.now.flags c.args.told.now c.args.digest.now c.args.taken.now) c.args.view.now.labels c.flags-flags.ensures.kept.flags_in file has stands

pub returns-clause-stands : goal.returns-clause-stands
returns-clause-stands c = λ k some begun.
    always_some (mail_of c.args.seen.now c.args.view.now.flags c.args.told.now c.args.digest.now c.args.taken.now) c.args.view.now.labels c.flags-flags.ensures.kept.flags_in k some begun

pub returns-clause-free : goal.returns-clause-free
returns-clause-free c =
    on_ok_weaker c.acts_of.result
    (λ open_. nothing_overwritten (mail_of c.args.seen.now c.args.view.now.flags c.args.told.now c.args.digest.now c.args.taken.now) c.args.view.now.labels c.flags-flags.ensures.kept.flags_in open_)
    c.acts_of.ensures.open
