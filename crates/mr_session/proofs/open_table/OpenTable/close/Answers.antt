use Rattle.std.proofs.Common.{arith, ◌∙◌}
use Rattle.mr_session.proofs.ViewLemmas.{some_in, at-by_number, closed_view}
use Rattle.mr_session.proofs.open_table.OpenTable.close.Goals as goal

pub lift-requires-clause-open : goal.lift-requires-clause-open
lift-requires-clause-open g c = some_in c.self.inside.slots c.args.self.now c.self.inside.opened c.args.number c.self.view_is c.requires

pub invariant_of-self : goal.invariant_of-self
invariant_of-self g c = record {
  once = c.lift.ensures.once;
  up_to = c.lift.ensures.up_to c.self.inside.opened c.self.invariant.up_to;
  few = omega (arith, c.lift.ensures.count, c.self.invariant.few);
}

pub returns-clause-value : goal.returns-clause-value
returns-clause-value g c = rw (← c.self.view_is) (at-by_number c.self.inside.slots.slots c.args.number ∙ c.lift.ensures.value)

pub returns-clause-closed : goal.returns-clause-closed
returns-clause-closed g c =
    let left = closed_view c.self.inside.slots c.lift.new.slots c.self.inside.opened c.args.number c.self.invariant c.lift.ensures.once (c.lift.ensures.up_to c.self.inside.opened c.self.invariant.up_to) c.lift.ensures.left in
    rw (← c.self.view_is) (λ i. record { opened = c.self.inside.opened; open_ones = left i })
