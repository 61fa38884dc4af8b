use Rattle.std.proofs.Common.{subst, ◌∙◌}
use Rattle.std.specs.BTreeMap.{values}
use Rattle.mr_compare.specs.Compare.{due_acts}
use Rattle.mr_compare.specs.Sides.{standings_by}
use Rattle.mr_fold.specs.inner.Lacking.{AreMissing}
use Rattle.mr_fold.proofs.DecidingLemmas.{deletes_stored}
use Rattle.mr_fold.proofs.deciding.decide.Goals as goal

pub returns-clause-others : goal.returns-clause-others
returns-clause-others c = record { rising = c.in_ok-others.ensures.rising; each = c.in_ok-others.ensures.each }

pub returns-clause-stored : goal.returns-clause-stored
returns-clause-stored c =
    let sides = c.in_ok-sides.sides in
    deletes_stored (values c.args.index.now) sides c.args.held.now.mails.items c.in_ok-others.others.items c.in_ok-acts.acts.items
    (subst (λ mails. AreMissing (values c.args.index.now) mails sides) c.deref.ensures.value c.in_ok-sides.ensures.says.missing)
    (c.in_ok-acts.ensures.value ∙ (λ i. due_acts (standings_by sides (c.deref-2.ensures.value i) (c.deref-3.ensures.value i))))
