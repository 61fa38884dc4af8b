use Rattle.mr_session.proofs.SlotLemmas.{placed, placed_once, placed_up_to}
use Rattle.mr_session.proofs.slots.place.Goals as goal

pub returns-clause-placed : goal.returns-clause-placed
returns-clause-placed g c = placed _ _ c.args.number _ c.args.value c.insert_reserved.ensures.was_vacant c.requires.absent c.requires.once c.insert_reserved.ensures.updates

pub returns-clause-once : goal.returns-clause-once
returns-clause-once g c = placed_once _ _ c.args.number _ c.args.value c.insert_reserved.ensures.was_vacant c.requires.absent c.requires.once c.insert_reserved.ensures.updates

pub returns-clause-up_to : goal.returns-clause-up_to
returns-clause-up_to g c = placed_up_to _ _ c.args.number _ c.args.value c.insert_reserved.ensures.was_vacant c.requires.absent c.requires.once c.insert_reserved.ensures.updates
