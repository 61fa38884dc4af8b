use Rattle.mr_session.proofs.SlotLemmas.{lifted, lifted_once, lifted_up_to, found_at, none_at}
use Rattle.mr_session.proofs.slots.lift.Goals as goal

pub returns-clause-value : goal.returns-clause-value
returns-clause-value g c = found_at c.args.slots.now c.args.number c.in-Some.key c.remove.result c.requires.once c.in-Some.ensures.found c.remove.ensures.value

pub returns-clause-left : goal.returns-clause-left
returns-clause-left g c = lifted _ _ c.args.number _ c.in-Some.ensures.found c.requires.once c.remove.ensures.updates

pub returns-clause-once : goal.returns-clause-once
returns-clause-once g c = lifted_once _ _ c.args.number _ c.in-Some.ensures.found c.requires.once c.remove.ensures.updates

pub returns-clause-up_to : goal.returns-clause-up_to
returns-clause-up_to g c = lifted_up_to _ _ c.args.number _ c.in-Some.ensures.found c.requires.once c.remove.ensures.updates

pub unreachable-requires : goal.unreachable-requires
unreachable-requires g c = let gone = rw (none_at c.args.slots.now c.args.number c.requires.once c.in-None.ensures.absent) at c.requires.open in cc
