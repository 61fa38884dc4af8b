use Rattle.std.proofs.Common.{◌<◌, ◌-◌, get_or, length, arith}
use Rattle.mr_itemset.proofs.Names.{Hole, get_or_default, ltb-true}
use Rattle.mr_itemset.proofs.told.last_begun.Goals as goal

pub returns-then-begun-gt0 : goal.returns-then-begun-gt0
returns-then-begun-gt0 c =
    let zero : Hole = record { first = 0; last = 0 } in
    let some = c.if-begun-gt0.true in
    let bound = c.begun_before-begun.ensures.bound in
    let within : c.begun_before-begun.result - 1 < length c.args.holes.now = omega arith in (
      (
        c.begun_before-begun.result - 1,
        within,
        get_or_default c.args.holes.now (c.begun_before-begun.result - 1) (get_or c.args.holes.now (c.begun_before-begun.result - 1) zero) zero within,
      ),
      ltb-true (get_or c.args.holes.now (c.begun_before-begun.result - 1) zero).first c.args.counter (c.begun_before-begun.ensures.begun.0 (c.begun_before-begun.result - 1) zero (omega arith) (omega arith)),
    )
