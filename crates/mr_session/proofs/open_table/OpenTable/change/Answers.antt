use Rattle.std.proofs.Common.{arith, ◌∙◌, refl}
use Rattle.mr_session.proofs.ViewLemmas.{table_of, some_in, given_at, gone, at-by_number, replaced_view}
use Rattle.mr_session.proofs.open_table.OpenTable.change.Goals as goal

pub lift-before-requires-clause-open : goal.lift-before-requires-clause-open
lift-before-requires-clause-open g c = some_in c.self.inside.slots c.args.self.now c.self.inside.opened c.args.number c.self.view_is c.requires.open

pub change-after-requires : goal.change-after-requires
change-after-requires g c =
    let given = given_at c.self.inside.slots c.self.inside.opened c.args.number c.lift-before.result c.self.invariant.up_to c.lift-before.ensures.value in
    c.requires.callable given.0 c.lift-before.result (rw (← c.self.view_is) (at-by_number c.self.inside.slots.slots c.args.number ∙ c.lift-before.ensures.value))

pub place-requires-clause-absent : goal.place-requires-clause-absent
place-requires-clause-absent g c = gone c.lift-before.new.slots _ _ c.lift-before.ensures.left

pub invariant_of-self : goal.invariant_of-self
invariant_of-self g c =
    let given = given_at c.self.inside.slots c.self.inside.opened c.args.number c.lift-before.result c.self.invariant.up_to c.lift-before.ensures.value in
    record {
      once = c.place.ensures.once;
      up_to = c.place.ensures.up_to c.self.inside.opened given.0 given.1 (c.lift-before.ensures.up_to c.self.inside.opened c.self.invariant.up_to);
      few = omega (arith, c.place.ensures.count, c.lift-before.ensures.count, c.self.invariant.few);
    }

pub returns-clause-changed : goal.returns-clause-changed
returns-clause-changed g c =
    let given = given_at c.self.inside.slots c.self.inside.opened c.args.number c.lift-before.result c.self.invariant.up_to c.lift-before.ensures.value in
    let up = c.place.ensures.up_to c.self.inside.opened given.0 given.1 (c.lift-before.ensures.up_to c.self.inside.opened c.self.invariant.up_to) in
    let ones = replaced_view c.self.inside.slots c.lift-before.new.slots c.place.new.slots c.self.inside.opened c.args.number c.lift-before.result c.change-after.result.0 c.self.invariant c.place.ensures.once up c.lift-before.ensures.value c.lift-before.ensures.left c.place.ensures.placed (λ _. c.change-after.result.0) refl in (
      c.lift-before.result,
      c.change-after.result.0,
      rw (← c.self.view_is) (at-by_number c.self.inside.slots.slots c.args.number ∙ c.lift-before.ensures.value),
      c.change-after.ensures,
      rw (← c.self.view_is) (λ i. record { opened = c.self.inside.opened; open_ones = ones i }),
    )

pub returns-clause-kept : goal.returns-clause-kept
returns-clause-kept g c = rw (← c.self.view_is) (table_of c.self.inside.slots c.self.inside.opened c.self.invariant)
