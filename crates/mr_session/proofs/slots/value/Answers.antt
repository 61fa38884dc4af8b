use Rattle.std.proofs.Common.{sym}
use Rattle.mr_session.proofs.SlotLemmas.{found_at, none_at}
use Rattle.mr_session.proofs.slots.value.Goals as goal

pub returns-in-Some : goal.returns-in-Some
returns-in-Some g c = sym (found_at c.args.slots.now c.args.number c.in-Some.key c.index.result.now c.requires c.in-Some.ensures.found c.index.ensures)

pub returns-in-None : goal.returns-in-None
returns-in-None g c = sym (none_at c.args.slots.now c.args.number c.requires c.in-None.ensures.absent)
