use Rattle.std.proofs.Common.{◌≡◌, ◌<◌, ◌≤◌, ◌-◌, ◌∙◌, ap, sym, length, get_or, arith}
use Rattle.mr_itemset.proofs.HoleWalk.{columns_alike}
use Rattle.mr_itemset.proofs.told.alike_until.Goals as goal

-- src/told.rt:97:1
pub returns-then-shared-gt0 : goal.returns-then-shared-gt0
returns-then-shared-gt0 c = λ k up.
    let some : 0 < c.loop-shared.shared = c.if-shared-gt0.true in
    let left_is : c.holes-left.result.now ≡ c.args.all.now.holes = c.holes-left.ensures in
    let right_is : c.holes-right.result.now ≡ c.args.own.now.holes = c.holes-right.ensures in
    let in_left : c.loop-shared.shared ≤ length c.holes-left.result.now = c.loop-shared.invariant.in_left in
    let in_right : c.loop-shared.shared ≤ length c.holes-right.result.now = c.loop-shared.invariant.in_right in
    let in_all : c.loop-shared.shared - 1 < length c.args.all.now.holes = rw (← left_is) (omega arith) in
    let in_own : c.loop-shared.shared - 1 < length c.args.own.now.holes = rw (← right_is) (omega arith) in
    columns_alike c.args.all.now c.args.own.now (c.loop-shared.shared - 1) (record { first = 0; last = 0 }) k c.requires.all c.requires.own in_all in_own
    (λ j e le. ap (λ holes. get_or holes j e) (sym left_is) ∙ (c.loop-shared.invariant.same j e (omega arith) ∙ ap (λ holes. get_or holes j e) right_is))
    (rw (← left_is) up)
