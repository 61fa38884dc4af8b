use Rattle.std.proofs.Common.{get_or, ◌+◌, ◌≡◌}
use Rattle.std.proofs.lemmas.List.{get_or_default}
use Rattle.mr_concise.proofs.HoleLemmas.{lasts-rise}
use Rattle.mr_concise.proofs.NextLemmas.{hole_from-some, hole_from-none}
use Rattle.mr_concise.proofs.column_ref.ColumnRef.hole_from.Goals as goal

pub hole_place_near-at-requires : goal.hole_place_near-at-requires
hole_place_near-at-requires c = lasts-rise 0 c.self.inside.holes.now (c.self.inside.upto + 1) c.self.invariant.apart

pub returns-then-at-self : goal.returns-then-at-self
returns-then-at-self c =
    let zero : get_or c.self.inside.holes.now c.hole_place_near-at.result (record { first = 0; last = 0 }) ≡ get_or c.self.inside.holes.now c.hole_place_near-at.result (get_or c.self.inside.holes.now c.hole_place_near-at.result (record { first = 0; last = 0 })) = get_or_default c.self.inside.holes.now c.hole_place_near-at.result (record { first = 0; last = 0 }) (get_or c.self.inside.holes.now c.hole_place_near-at.result (record { first = 0; last = 0 })) c.if-at-self.true in
    rw (← c.self.view_is) (hole_from-some (record { upto = c.self.inside.upto; holes = c.self.inside.holes.now }) c.args.counter c.hole_place_near-at.result (get_or c.self.inside.holes.now c.hole_place_near-at.result (record { first = 0; last = 0 })) c.self.invariant c.requires c.hole_place_near-at.ensures.place c.if-at-self.true zero)

pub returns-else-at-self : goal.returns-else-at-self
returns-else-at-self c = rw (← c.self.view_is) (hole_from-none (record { upto = c.self.inside.upto; holes = c.self.inside.holes.now }) c.args.counter c.hole_place_near-at.result c.self.invariant c.requires c.hole_place_near-at.ensures.place c.if-at-self.false)
