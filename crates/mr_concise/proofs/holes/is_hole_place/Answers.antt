use Rattle.std.proofs.Common.{◌<◌, ◌≤◌, ◌-◌, ◌∙◌, sym, get_or, length, arith}
use Rattle.mr_concise.proofs.Names.{Hole, leb-true, lt-leb, ltb-true, true≢false}
use Rattle.mr_concise.proofs.HoleLemmas.{place-between, same-last}
use Rattle.mr_concise.proofs.holes.is_hole_place.Goals as goal
use Rattle.mr_concise.proofs.holes.is_hole_place.Goals.{then-at-holes+then-at-eq0, then-at-holes+else-at-eq0, else-at-holes}

pub returns-else-at-holes-2 : goal.returns-else-at-holes-2
returns-else-at-holes-2 c h =
    let zero : Hole = record { first = 0; last = 0 } in
    let ge : c.args.counter ≤ (get_or c.args.holes.now c.args.at zero).last = leb-true c.args.counter (get_or c.args.holes.now c.args.at zero).last h in
    elim c.if-at-holes.branch [
      | then-at-holes+then-at-eq0 w ↦ let le = w.if-at-holes.true in let none = w.if-at-eq0.true in (le, place-between c.args.holes.now c.args.at c.args.counter c.requires le (λ d some. absurd (omega arith)) (λ d l. let e = same-last c.args.holes.now c.args.at d zero l in omega arith))
      | then-at-holes+else-at-eq0 w ↦ let le = w.if-at-holes.true in let lt : (get_or c.args.holes.now (c.args.at - 1) zero).last < c.args.counter = ltb-true (get_or c.args.holes.now (c.args.at - 1) zero).last c.args.counter (sym w.value-is ∙ c.if-holes-at.true) in (le, place-between c.args.holes.now c.args.at c.args.counter c.requires le (λ d some. let e = same-last c.args.holes.now (c.args.at - 1) d zero (omega arith) in omega arith) (λ d l. let e = same-last c.args.holes.now c.args.at d zero l in omega arith))
      | else-at-holes w ↦ absurd (true≢false (sym c.if-holes-at.true ∙ w.value-is ∙ lt-leb c.args.at (length c.args.holes.now) w.if-at-holes.false))
    ]
