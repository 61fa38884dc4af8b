use Rattle.std.proofs.Common.{All, List, sym, subst, take}
use Rattle.std.proofs.lemmas.List.{take_all}
use Rattle.std.proofs.lemmas.List.Elements.{All-push, All-weaker}
use Rattle.mr_compare.specs.declared.compare.MailAct.{MailAct}
use Rattle.mr_compare.proofs.ListLemmas.{take_one}
use Rattle.mr_fold.proofs.settling.show.Goals as goal

pub loop-act-preserved : goal.loop-act-preserved
loop-act-preserved g c =
    let before = take c.loop-act.act-index c.args.acts.now in
    let is_shown = g.F.MailFiles.is_shown c.show.new.self in
    subst (λ (acts : List MailAct). All is_shown acts) (sym (take_one c.args.acts.now c.loop-act.act-index c.act-item.result c.loop-act-test.true c.act-item.is))
    (All-push is_shown before c.act-item.result (All-weaker (g.F.MailFiles.is_shown c.loop-act.files) is_shown c.show.ensures.others before c.loop-act.invariant) c.in_ok-show.ensures.shown)

pub returns : goal.returns
returns g c = subst (λ (acts : List MailAct). All (g.F.MailFiles.is_shown c.loop-act.files) acts) (take_all c.loop-act.act-index c.args.acts.now c.loop-act-test.false) c.loop-act.invariant
