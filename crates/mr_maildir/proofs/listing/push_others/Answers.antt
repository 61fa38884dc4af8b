use Rattle.std.proofs.Common.{◌<◌, ◌∷◌, ℕ, List, length, string_bytes, arith}
use Rattle.mr_maildir.proofs.PlanLemmas.{one_more}
use Rattle.mr_maildir.proofs.listing.push_others.Goals as goal

pub loop-label-preserved : goal.loop-label-preserved
loop-label-preserved c =
    let below : c.loop-label.label-index < length c.args.labels.now = omega arith in
    one_more (λ (label : List ℕ). 44 ∷ label) (string_bytes c.args.text.now) (string_bytes c.loop-label.text) (string_bytes c.push_other.new.text) c.args.labels.now c.loop-label.label-index c.label-item.result below c.label-item.is c.loop-label.invariant c.in_ok-push_other.ensures
