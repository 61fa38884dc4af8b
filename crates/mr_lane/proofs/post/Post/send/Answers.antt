use Rattle.std.proofs.Common.{rules, refl, ◌∙◌}
use Rattle.mr_lane.proofs.PieceLemmas.{one_more}
use Rattle.mr_lane.proofs.post.Post.send.Goals as goal

pub invariant_of-self : goal.invariant_of-self
invariant_of-self g c = (search rules, record { sends = c.put.ensures.may; number = c.put.ensures.number ∙ c.self.invariant.1.number; in_order = (one_more _ _ _ _ _ c.if-self.false c.self.invariant.1.in_order refl c.in-Ok.ensures.ok).1 })

pub returns-in-Ok-clause-ok : goal.returns-in-Ok-clause-ok
returns-in-Ok-clause-ok g c = let o = one_more _ _ _ _ _ c.if-self.false c.self.invariant.1.in_order refl c.in-Ok.ensures.ok in
    rw (← c.self.view_is) (c.if-self.false, cc (o.0, c.put.ensures.pass.1))
