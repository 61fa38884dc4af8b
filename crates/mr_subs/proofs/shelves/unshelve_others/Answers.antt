use Rattle.std.proofs.Common.{◌∙◌, sym}
use Rattle.mr_subs.proofs.Names.{is_place, on_shelf}
use Rattle.mr_subs.proofs.LabelLemmas.{is_place-other_label, is_place-other_version, stays-emptied}
use Rattle.mr_subs.proofs.shelves.unshelve_others.Goals as goal
use Rattle.mr_subs.proofs.shelves.unshelve_others.Goals.{then-not-is_among, else-not-is_among}

pub loop-label-preserved : goal.loop-label-preserved
loop-label-preserved c = elim c.if-not-is_among.branch [
  | then-not-is_among w ↦ (
    λ q other v h. rw w.shelves-is (stays-emptied (is_place c.label-item.result c.args.version q v) (on_shelf c.loop-label.shelves.entries q v) (on_shelf w.unshelve.new.shelves.entries q v) (w.unshelve.ensures q v)
        (is_place-other_label c.args.others.now c.label-item.result q c.args.version v (sym c.is_among.ensures ∙ w.if-not-is_among.true) other) (c.loop-label.invariant.0 q other v h)),
    λ v other q h. rw w.shelves-is (stays-emptied (is_place c.label-item.result c.args.version q v) (on_shelf c.loop-label.shelves.entries q v) (on_shelf w.unshelve.new.shelves.entries q v) (w.unshelve.ensures q v)
        (is_place-other_version c.label-item.result q c.args.version v other) (c.loop-label.invariant.1 v other q h)),
  )
  | else-not-is_among w ↦ rw w.shelves-is c.loop-label.invariant
]
