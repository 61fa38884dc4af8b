use Rattle.std.proofs.Common.{◌++◌, ◌∙◌, ap, arith}
use Rattle.mr_filter.proofs.TextLemmas.{texts_of-push}
use Rattle.mr_filter.proofs.text.push_labels.Goals as goal

pub loop-label-preserved : goal.loop-label-preserved
loop-label-preserved c =
    texts_of-push (λ label. c.args.prefix.now ++ label) _ _ _ _ c.args.labels.now _ c.label-item.result _ (omega arith) c.label-item.is
    (c.in_ok-format.ensures.ok ∙ ap (λ name. c.args.prefix.now ++ name) c.as_str.ensures.value) c.loop-label.invariant c.in_ok-push.ensures.items
