use Rattle.std.proofs.Common.{◌≡◌, All, List, false, take, subst, sym, ◌∙◌}
use Rattle.std.proofs.lemmas.List.{take_all}
use Rattle.std.proofs.lemmas.List.Elements.{All-push}
use Rattle.mr_compare.specs.Tally.{deletes}
use Rattle.mr_compare.specs.declared.compare.MailAct.{MailAct}
use Rattle.mr_compare.proofs.ListLemmas.{take_one}
use Rattle.mr_fold.proofs.TakingLemmas.{deletes_not}
use Rattle.mr_fold.proofs.sides.take_away.Goals as goal

-- none of these is a deletion
abbrev AreNone : List MailAct → Type 0
AreNone acts = All (λ (mail : MailAct). deletes mail.act ≡ false) acts

pub loop-mail-preserved : goal.loop-mail-preserved
loop-mail-preserved c =
    subst AreNone (sym (take_one c.args.acts.now c.loop-mail.mail-index c.mail-item.result c.loop-mail-test.true c.mail-item.is))
    (All-push (λ (mail : MailAct). deletes mail.act ≡ false) (take c.loop-mail.mail-index c.args.acts.now) c.mail-item.result c.loop-mail.invariant
    (deletes_not c.mail-item.result.act _ (sym c.takes_away.ensures ∙ c.if-takes_away.false)))

pub returns : goal.returns
returns c = λ _. subst AreNone (take_all c.loop-mail.mail-index c.args.acts.now c.loop-mail-test.false) c.loop-mail.invariant
