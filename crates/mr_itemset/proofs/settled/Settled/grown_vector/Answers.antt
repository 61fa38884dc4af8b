use Rattle.mr_itemset.proofs.settled.Settled.grown_vector.Goals as goal

pub returns-in-Ok-clause-room : goal.returns-in-Ok-clause-room
returns-in-Ok-clause-room g c = c.has_room.ensures.yes c.if-not-has_room.false

pub returns-in-Ok-clause-vector : goal.returns-in-Ok-clause-vector
returns-in-Ok-clause-vector g c = rw (← c.vector_of.ensures.is) c.in-Ok.ensures.canonical

pub returns-in-Ok-clause-normal : goal.returns-in-Ok-clause-normal
returns-in-Ok-clause-normal g c = c.has_room.ensures.normal
