use Rattle.std.proofs.Common.{arith, sym}
use Rattle.mr_concise.proofs.HoleLemmas.{lasts-rise, filled-place, filled-above, filled-past}
use Rattle.mr_concise.proofs.holes.fill.Goals as goal

pub hole_place-at-requires : goal.hole_place-at-requires
hole_place-at-requires c = rw c.deref.ensures.value (lasts-rise 0 c.args.holes.now.items c.requires.apart.end c.requires.apart.apart)

pub returns-then-hole-counter-clause-ok : goal.returns-then-hole-counter-clause-ok
returns-then-hole-counter-clause-ok c =
    let place = rw c.deref.ensures.value at c.hole_place-at.ensures.place in
    let is = filled-place c.args.counter c.args.holes.now.items c.hole_place-at.result c.index-hole.result.now c.requires.apart place (omega arith) c.index-hole.ensures c.if-hole-counter.true in
    rw is c.split.ensures.ok

pub returns-else-hole-counter-clause-ok : goal.returns-else-hole-counter-clause-ok
returns-else-hole-counter-clause-ok c =
    let place = rw c.deref.ensures.value at c.hole_place-at.ensures.place in
    sym (filled-above c.args.counter c.args.holes.now.items c.hole_place-at.result c.index-hole.result.now c.requires.apart place (omega arith) c.index-hole.ensures c.if-hole-counter.false)

pub returns-else-at-len-clause-ok : goal.returns-else-at-len-clause-ok
returns-else-at-len-clause-ok c =
    let place = rw c.deref.ensures.value at c.hole_place-at.ensures.place in
    sym (filled-past c.args.counter c.args.holes.now.items c.hole_place-at.result c.requires.apart place (omega arith) (omega arith))
