use Rattle.std.proofs.Common.{inl, inr, ◌∙◌, ap, true, cond}
use Rattle.mr_subs.proofs.Names.{is_place, on_shelf}
use Rattle.mr_subs.proofs.LabelLemmas.{has_label-take_more, is_place-itself, stays-filled}
use Rattle.mr_subs.proofs.shelves.shelve_all.Goals as goal

pub loop-label-preserved : goal.loop-label-preserved
loop-label-preserved c = (
  λ q h. elim (has_label-take_more c.args.labels.now c.loop-label.label-index c.label-item.result q c.loop-label-test.true c.label-item.is h) [
    | inl before ↦ stays-filled (is_place c.label-item.result c.args.version q c.args.version) (on_shelf c.loop-label.shelves.entries q c.args.version) (on_shelf c.shelve.new.shelves.entries q c.args.version) (c.in_ok-shelve.ensures.ok q c.args.version) (c.loop-label.invariant.0 q before)
    | inr here ↦ c.in_ok-shelve.ensures.ok q c.args.version
        ∙ ap (λ l. cond (is_place c.label-item.result c.args.version l c.args.version) true (on_shelf c.loop-label.shelves.entries q c.args.version)) here
        ∙ ap (λ b. cond b true (on_shelf c.loop-label.shelves.entries q c.args.version)) (is_place-itself c.label-item.result c.args.version)
  ],
  λ q v h. stays-filled (is_place c.label-item.result c.args.version q v) (on_shelf c.loop-label.shelves.entries q v) (on_shelf c.shelve.new.shelves.entries q v) (c.in_ok-shelve.ensures.ok q v) (c.loop-label.invariant.1 q v h),
)
