use Rattle.std.proofs.Common.{rules, refl, ◌∙◌}
use Rattle.mr_lane.proofs.PieceLemmas.{one_more, waiting_items}
use Rattle.mr_lane.proofs.tap_ends.Spout.offer.Goals as goal

pub invariant_of-self : goal.invariant_of-self
invariant_of-self g c = (search rules, record { offers = c.put.ensures.may; in_order = (one_more _ _ _ _ _ c.if-self.false c.self.invariant.1.in_order refl c.in-Ok.ensures.ok).1 })

pub returns-in-Ok-clause-ok : goal.returns-in-Ok-clause-ok
returns-in-Ok-clause-ok g c = let o = one_more _ _ _ _ _ c.if-self.false c.self.invariant.1.in_order refl c.in-Ok.ensures.ok in
    rw (← c.self.view_is) (c.if-self.false, cc (o.0, c.put.ensures.pass.1))

pub returns-in-Err-Item-clause-err : goal.returns-in-Err-Item-clause-err
returns-in-Err-Item-clause-err g c = let e = c.in-Err-Item.ensures.err in
    let full = waiting_items _ _ _ c.if-self.false c.self.invariant.1.in_order e.2 in
    rw (← c.self.view_is) (cc (e.1, c.put.ensures.pass.1), (cc (e.0, c.in-Err-Item.field-0-is), c.if-self.false, (full.0, full.1, full.2, full.3 ∙ rw c.deref.ensures refl)))
