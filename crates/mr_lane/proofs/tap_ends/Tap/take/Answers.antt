use Rattle.std.proofs.Common.{rules}
use Rattle.mr_lane.proofs.PieceLemmas.{one_more, ended}
use Rattle.mr_lane.proofs.tap_ends.Tap.take.Goals as goal

pub invariant_of-self-in-Some-Item : goal.invariant_of-self-in-Some-Item
invariant_of-self-in-Some-Item g c = (search rules, record { takes = c.get.ensures.may; in_order = (one_more _ _ _ _ _ c.if-self.false c.self.invariant.1.in_order c.in-Some-Item.field-0-is c.in-Some-Item.ensures.got).1 })

pub returns-in-Some-Item-clause-drawn : goal.returns-in-Some-Item-clause-drawn
returns-in-Some-Item-clause-drawn g c = let o = one_more _ _ _ _ _ c.if-self.false c.self.invariant.1.in_order c.in-Some-Item.field-0-is c.in-Some-Item.ensures.got in
    rw (← c.self.view_is) (c.if-self.false, cc (o.0, c.get.ensures.pass.1))

pub invariant_of-self-in-Some-End : goal.invariant_of-self-in-Some-End
invariant_of-self-in-Some-End g c = (search rules, record { takes = c.get.ensures.may; in_order = (ended _ _ _ _ c.if-self.false c.self.invariant.1.in_order c.in-Some-End.field-0-is c.in-Some-End.ensures.got).1 })

pub returns-in-Some-End-clause-drawn : goal.returns-in-Some-End-clause-drawn
returns-in-Some-End-clause-drawn g c = let o = ended _ _ _ _ c.if-self.false c.self.invariant.1.in_order c.in-Some-End.field-0-is c.in-Some-End.ensures.got in
    rw (← c.self.view_is) (cc (o.0, c.get.ensures.pass.1))
