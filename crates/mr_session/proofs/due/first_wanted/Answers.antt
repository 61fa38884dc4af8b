use Rattle.std.proofs.Common.{◌<◌, length, find, sym, ◌∙◌}
use Rattle.mr_session.specs.Stream.{is_wanted, lower}
use Rattle.mr_session.proofs.WalkLemmas.{at_left_is, at_left_not, at_right_is, at_right_not, rest_rises, not_empty}
use Rattle.mr_session.proofs.due.first_wanted.Goals as goal

pub returns-then-wants : goal.returns-then-wants
returns-then-wants c =
    let i = c.loop-first.invariant in
    sym (at_left_is (is_wanted c.args.asked.now) c.index-left-0.result c.loop-first.left.now c.loop-first.right.now i.1 (sym c.is_left_first.ensures ∙ c.if-is_left_first.true) c.index-left-0.is (sym c.wants.ensures ∙ c.if-wants.true)) ∙ i.2

pub loop-first-init : goal.loop-first-init
loop-first-init c =
    (c.pass_known-left.ensures.in_order, c.pass_known-right.ensures.in_order, λ i. lower (c.pass_known-left.ensures.found i) (c.pass_known-right.ensures.found i))

pub pass_known-left-requires-then-is_left_first : goal.pass_known-left-requires-then-is_left_first
pass_known-left-requires-then-is_left_first c = rest_rises c.loop-first.left.now c.loop-first.invariant.0

pub loop-first-preserved-then-is_left_first : goal.loop-first-preserved-then-is_left_first
loop-first-preserved-then-is_left_first c =
    let i = c.loop-first.invariant in
    let passed = c.pass_known-left-then-is_left_first.ensures in (
      passed.in_order,
      i.1,
      (λ k. lower (passed.found k) (find (is_wanted c.args.asked.now) c.loop-first.right.now))
          ∙ (at_left_not (is_wanted c.args.asked.now) c.index-left-0.result c.loop-first.left.now c.loop-first.right.now (sym c.is_left_first.ensures ∙ c.if-is_left_first.true) c.index-left-0.is (sym c.wants.ensures ∙ c.if-wants.false) ∙ i.2),
    )

pub returns-then-wants-2 : goal.returns-then-wants-2
returns-then-wants-2 c =
    let i = c.loop-first.invariant in
    let some : 0 < length c.loop-first.right.now = not_empty c.loop-first.right.now (sym c.is_empty.ensures ∙ c.if-is_empty.false) in
    sym (at_right_is (is_wanted c.args.asked.now) c.index-right-0.result c.loop-first.left.now c.loop-first.right.now i.0 (sym c.is_left_first.ensures ∙ c.if-is_left_first.false) some c.index-right-0.is (sym c.wants-else-is_empty.ensures ∙ c.if-wants-2.true)) ∙ i.2

pub pass_known-right-requires-else-is_empty : goal.pass_known-right-requires-else-is_empty
pass_known-right-requires-else-is_empty c = rest_rises c.loop-first.right.now c.loop-first.invariant.1

pub loop-first-preserved : goal.loop-first-preserved
loop-first-preserved c =
    let i = c.loop-first.invariant in
    let passed = c.pass_known-right-else-is_empty.ensures in
    let some : 0 < length c.loop-first.right.now = not_empty c.loop-first.right.now (sym c.is_empty.ensures ∙ c.if-is_empty.false) in (
      i.0,
      passed.in_order,
      (λ k. lower (find (is_wanted c.args.asked.now) c.loop-first.left.now) (passed.found k))
          ∙ (at_right_not (is_wanted c.args.asked.now) c.index-right-0.result c.loop-first.left.now c.loop-first.right.now some c.index-right-0.is (sym c.wants-else-is_empty.ensures ∙ c.if-wants-2.false) ∙ i.2),
    )
