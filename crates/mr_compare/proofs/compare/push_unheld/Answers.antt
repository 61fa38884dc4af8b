use Rattle.std.proofs.Common.{◌++◌, [], ap, slice_index_or, ◌∙◌}
use Rattle.mr_compare.proofs.Names.{Standing, due, get_or_default, standing_of_unheld}
use Rattle.mr_compare.proofs.CompareLemmas.{due-more}
use Rattle.mr_compare.proofs.compare.push_unheld.Goals as goal

pub loop-digest-preserved : goal.loop-digest-preserved
loop-digest-preserved c =
    let digest = slice_index_or c.args.digests.now c.loop-digest.digest-index [] in
    due-more (standing_of_unheld c.args.sides.now) c.args.digests.now c.loop-digest.digest-index digest c.args.acts.now.items c.loop-digest.acts.items c.push_due.new.acts.items c.loop-digest-test.true
    (get_or_default c.args.digests.now c.loop-digest.digest-index [] digest c.loop-digest-test.true) c.loop-digest.invariant
    (c.in_ok-push_due.ensures ∙ ap (λ (mail : Standing). c.loop-digest.acts.items ++ due mail) c.in_ok-standing_of_unheld.ensures)
