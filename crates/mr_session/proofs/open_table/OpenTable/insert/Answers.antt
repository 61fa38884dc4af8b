use Rattle.std.proofs.Common.{arith, ◌+◌}
use Rattle.mr_session.proofs.ViewLemmas.{reserved, none_above, opened_slots, opened_table}
use Rattle.mr_session.proofs.open_table.OpenTable.insert.Goals as goal

pub invariant_of-self : goal.invariant_of-self
invariant_of-self g c = reserved c.self.inside.slots c.reserve.new.self c.self.inside.opened c.self.invariant c.reserve.ensures.rest_kept

pub place-requires-clause-once : goal.place-requires-clause-once
place-requires-clause-once g c = (reserved c.self.inside.slots c.reserve.new.self c.self.inside.opened c.self.invariant c.reserve.ensures.rest_kept).once

pub place-requires-clause-absent : goal.place-requires-clause-absent
place-requires-clause-absent g c =
    none_above c.reserve.new.self c.self.inside.opened (c.self.inside.opened + 1) (reserved c.self.inside.slots c.reserve.new.self c.self.inside.opened c.self.invariant c.reserve.ensures.rest_kept) (omega arith)

pub invariant_of-self-2 : goal.invariant_of-self-2
invariant_of-self-2 g c =
    opened_slots c.self.inside.slots c.reserve.new.self c.place.new.slots c.self.inside.opened c.args.value c.self.invariant c.reserve.ensures.rest_kept c.place.ensures.once c.place.ensures.up_to c.args.self.now c.self.view_is c.requires.room c.place.ensures.count

pub returns-clause-ok : goal.returns-clause-ok
returns-clause-ok g c =
    let came = opened_table c.self.inside.slots c.reserve.new.self c.place.new.slots c.self.inside.opened c.args.value c.self.invariant c.reserve.ensures.rest_kept c.place.ensures.once c.place.ensures.up_to c.place.ensures.placed in
    rw (← c.self.view_is) (λ i. record { opened = c.self.inside.opened + 1; open_ones = came i })
