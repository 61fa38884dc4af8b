use Rattle.std.proofs.Common.{◌<◌, ◌||◌, not, ℕ, Bool, List, length, arith}
use Rattle.mr_maildir.proofs.Names.{ViewParts, is_gone, stays_in, with_say}
use Rattle.mr_maildir.proofs.MergingLemmas.{one_more_head}
use Rattle.mr_maildir.proofs.merging.staying_labels.Goals as goal

pub loop-head-preserved : goal.loop-head-preserved
loop-head-preserved c =
    let p : List ℕ → Bool = stays_in c.args.ancestor.now (with_say c.args.gone c.args.heads.now) in
    let q : ViewParts → Bool = λ head. c.args.gone || not (is_gone head) in
    let below : c.loop-head.head-index < length c.args.heads.now = omega arith in
    one_more_head p q c.loop-head.labels.items c.push_said.new.labels.items c.args.heads.now c.loop-head.head-index c.head-item.result below c.head-item.is c.loop-head.invariant c.in_ok-push_said.ensures
