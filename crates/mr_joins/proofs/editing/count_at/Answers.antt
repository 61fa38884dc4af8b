use Rattle.std.proofs.Common.{◌+◌, ◌∙◌, Bool, cond, sym, ap, drop}
use Rattle.mr_joins.specs.Value.{says}
use Rattle.mr_joins.proofs.Marks.{says-drop, says-end}
use Rattle.mr_joins.proofs.editing.count_at.Goals as goal

pub returns-then-is_of : goal.returns-then-is_of
returns-then-is_of c =
    sym (ap (λ (b : Bool). cond b c.mark-item.result.count (says (drop (c.loop-mark.mark-index + 1) c.args.marks.now) (c.args.item, c.args.element.now))) (sym c.is_of.ensures ∙ c.if-is_of.true))
    ∙ sym (says-drop c.args.marks.now c.loop-mark.mark-index c.mark-item.result (c.args.item, c.args.element.now) c.loop-mark-test.true c.mark-item.is)
    ∙ c.loop-mark.invariant

pub loop-mark-preserved : goal.loop-mark-preserved
loop-mark-preserved c =
    sym (ap (λ (b : Bool). cond b c.mark-item.result.count (says (drop (c.loop-mark.mark-index + 1) c.args.marks.now) (c.args.item, c.args.element.now))) (sym c.is_of.ensures ∙ c.if-is_of.false))
    ∙ sym (says-drop c.args.marks.now c.loop-mark.mark-index c.mark-item.result (c.args.item, c.args.element.now) c.loop-mark-test.true c.mark-item.is)
    ∙ c.loop-mark.invariant

pub returns : goal.returns
returns c = sym (says-end c.args.marks.now c.loop-mark.mark-index (c.args.item, c.args.element.now) c.loop-mark-test.false) ∙ c.loop-mark.invariant
