use Rattle.std.proofs.Common.{◌≡◌, ◌<◌, length, inl, inr, arith}
use Rattle.std.proofs.lemmas.Bool.{cases_lt}
use Rattle.std.proofs.lemmas.List.{get_or_read}
use Rattle.mr_joins.proofs.view.tell_labels.Goals as goal

pub loop-label-preserved : goal.loop-label-preserved
loop-label-preserved c =
    let below : c.loop-label.label-index < length c.args.labels.now = omega arith in
    λ k d lt.
    elim (cases_lt k c.loop-label.label-index) [
      | inl less ↦ c.loop-label.invariant k d less
      | inr more ↦
          let same : k ≡ c.loop-label.label-index = omega arith in
          let one = get_or_read c.args.labels.now c.loop-label.label-index c.label-item.result below c.label-item.is d in
          rw same (rw (← one) c.as_str-text.ensures.is_label)
    ]
