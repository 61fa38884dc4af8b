use Rattle.mr_maildir.proofs.Names.{mail_of, on_ok_weaker}
use Rattle.mr_maildir.proofs.MomentLemmas.{put-named}
use Rattle.mr_maildir.proofs.plan.acts_of.Goals as goal

pub returns-clause-named : goal.returns-clause-named
returns-clause-named c =
    on_ok_weaker c.acts.result
    (λ _. put-named (mail_of c.args.seen.now c.args.view.now.flags c.args.told.now c.args.digest.now c.args.taken.now)
    (record { part = c.unique_for.ensures.path; colon = c.unique_for.ensures.colon }) c.digits_of.ensures.named)
    c.acts.ensures.open
