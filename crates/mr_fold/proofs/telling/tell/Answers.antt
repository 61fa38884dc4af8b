use Rattle.std.proofs.Common.{[], refl, subst}
use Rattle.mr_kept.specs.Kept.{replica_of}
use Rattle.mr_fold.specs.Telling.{TellsAct, TellsAll, TellsMail, Grows}
use Rattle.mr_fold.proofs.TellingLemmas.{grows_not, grows_by_one}
use Rattle.mr_fold.proofs.SettlingLemmas.{same_journal, same_then, stay_still, stay_then}
use Rattle.mr_fold.proofs.telling.tell.Goals as goal

pub loop-mail-init : goal.loop-mail-init
loop-mail-init g c = record {
  told = grows_not (TellsAll c.args.held.now.entries []) (replica_of c.args.kept.now) (refl, refl);
  journal = same_journal c.args.kept.now;
  stay = stay_still c.args.files.now;
}

pub loop-mail-preserved : goal.loop-mail-preserved
loop-mail-preserved g c = record {
  told =
      grows_by_one (TellsMail c.args.held.now.entries) c.args.acts.now c.loop-mail.mail-index c.mail-item.result (replica_of c.args.kept.now) (replica_of c.loop-mail.kept) (replica_of c.tell_act.new.kept) c.loop-mail-test.true c.mail-item.is c.loop-mail.invariant.told
      (subst (λ is. Grows (TellsAct is c.mail-item.result.act) (replica_of c.loop-mail.kept) (replica_of c.tell_act.new.kept)) c.items_of-items.ensures c.in_ok-tell_act.ensures.told);
  journal = same_then c.args.kept.now c.loop-mail.kept c.tell_act.new.kept c.loop-mail.invariant.journal c.tell_act.ensures.journal;
  stay = stay_then c.args.files.now c.loop-mail.files c.tell_act.new.files c.loop-mail.invariant.stay c.tell_act.ensures.stay;
}

pub returns-in_err-tell_act-clause-journal : goal.returns-in_err-tell_act-clause-journal
returns-in_err-tell_act-clause-journal g c = same_then c.args.kept.now c.loop-mail.kept c.tell_act.new.kept c.loop-mail.invariant.journal c.tell_act.ensures.journal

pub returns-in_err-tell_act-clause-stay : goal.returns-in_err-tell_act-clause-stay
returns-in_err-tell_act-clause-stay g c = stay_then c.args.files.now c.loop-mail.files c.tell_act.new.files c.loop-mail.invariant.stay c.tell_act.ensures.stay
