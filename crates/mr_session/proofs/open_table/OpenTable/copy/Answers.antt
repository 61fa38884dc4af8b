use Rattle.std.proofs.Common.{ap}
use Rattle.mr_session.specs.Slots.{by_number}
use Rattle.mr_session.proofs.ViewLemmas.{same_slots, slots_of}
use Rattle.mr_session.proofs.open_table.OpenTable.copy.Goals as goal

pub invariant_of-result : goal.invariant_of-result
invariant_of-result g c = slots_of c.self.inside.slots c.in_ok-clone.field-0 c.self.inside.opened (same_slots g.T.Clone.is_clone c.requires _ _ c.in_ok-clone.ensures.cases.slots) c.self.invariant

pub returns : goal.returns
returns g c =
    let same = ap by_number (same_slots g.T.Clone.is_clone c.requires c.self.inside.slots.slots c.in_ok-clone.field-0.slots c.in_ok-clone.ensures.cases.slots) in
    rw (← c.self.view_is) (λ i. record { opened = c.self.inside.opened; open_ones = same i })
