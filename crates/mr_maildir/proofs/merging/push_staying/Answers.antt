use Rattle.std.proofs.Common.{◌≡◌, ◌<◌, ◌++◌, ◌∷◌, [], ℕ, Bool, List, cond, length, arith}
use Rattle.mr_maildir.specs.Merging.{with_say, stays_in}
use Rattle.mr_maildir.proofs.MergingLemmas.{one_more_label}
use Rattle.mr_maildir.proofs.merging.push_staying.Goals as goal

pub loop-label-preserved : goal.loop-label-preserved
loop-label-preserved c =
    let p : List ℕ → Bool = stays_in c.args.ancestor.now (with_say c.args.gone c.args.heads.now) in
    let below : c.loop-label.label-index < length c.labels-label-items.result.now = omega arith in
    let grown : c.push_if.new.labels.items ≡ c.loop-label.labels.items ++ cond (p c.label-item.result) (c.label-item.result ∷ []) [] =
    rw c.label_stays.ensures at c.in_ok-push_if.ensures in
    one_more_label p c.args.labels.now.items c.loop-label.labels.items c.push_if.new.labels.items c.labels-label-items.result.now c.loop-label.label-index c.label-item.result below c.label-item.is c.loop-label.invariant grown
