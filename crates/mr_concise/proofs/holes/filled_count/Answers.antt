use Rattle.std.proofs.Common.{arith, sym, ap, length, get_or}
use Rattle.std.proofs.lemmas.List.{get_or_default}
use Rattle.mr_concise.proofs.HoleLemmas.{lasts-rise, filled-above, filled-past, split-count}
use Rattle.mr_concise.proofs.holes.filled_count.Goals as goal
use Rattle.mr_concise.proofs.holes.filled_count.Goals.{then-hole-counter-2, else-hole-counter-2, then-counter-hole, else-counter-hole}

pub hole_place-at-requires : goal.hole_place-at-requires
hole_place-at-requires c = lasts-rise 0 c.args.holes.now c.requires.apart.end c.requires.apart.apart

pub returns-then-hole-counter : goal.returns-then-hole-counter
returns-then-hole-counter c = split-count c.args.counter c.args.holes.now c.hole_place-at.result (get_or c.args.holes.now c.hole_place-at.result (record { first = 0; last = 0 })) c.if-hole-counter-2.left c.if-counter-hole.right c.requires.apart c.hole_place-at.ensures.place c.if-at-holes.true (get_or_default c.args.holes.now c.hole_place-at.result (record { first = 0; last = 0 }) (get_or c.args.holes.now c.hole_place-at.result (record { first = 0; last = 0 })) c.if-at-holes.true) c.if-hole-counter.true c.requires.from_one
    (λ h. elim c.if-hole-counter-2.branch [ then-hole-counter-2 w ↦ w.left-is | else-hole-counter-2 w ↦ absurd (let f = w.if-hole-counter-2.false in omega arith) ])
    (λ h. elim c.if-hole-counter-2.branch [ then-hole-counter-2 w ↦ absurd (let f = w.if-hole-counter-2.true in omega arith) | else-hole-counter-2 w ↦ w.left-is ])
    (λ h. elim c.if-counter-hole.branch [ then-counter-hole w ↦ w.right-is | else-counter-hole w ↦ absurd (let f = w.if-counter-hole.false in omega arith) ])
    (λ h. elim c.if-counter-hole.branch [ then-counter-hole w ↦ absurd (let f = w.if-counter-hole.true in omega arith) | else-counter-hole w ↦ w.right-is ])

pub returns-else-hole-counter : goal.returns-else-hole-counter
returns-else-hole-counter c = ap length (sym (filled-above c.args.counter c.args.holes.now c.hole_place-at.result (get_or c.args.holes.now c.hole_place-at.result (record { first = 0; last = 0 })) c.requires.apart c.hole_place-at.ensures.place (omega arith) (get_or_default c.args.holes.now c.hole_place-at.result (record { first = 0; last = 0 }) (get_or c.args.holes.now c.hole_place-at.result (record { first = 0; last = 0 })) c.if-at-holes.true) c.if-hole-counter.false))

pub returns-else-at-holes : goal.returns-else-at-holes
returns-else-at-holes c = ap length (sym (filled-past c.args.counter c.args.holes.now c.hole_place-at.result c.requires.apart c.hole_place-at.ensures.place (omega arith) (omega arith)))
