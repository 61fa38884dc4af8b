use Rattle.std.proofs.Common.{sym}
use Rattle.mr_world.proofs.Running.MemberPlaces.{place_within, replica_none, replica_some}
use Rattle.mr_world.proofs.world.World.replica.Goals as goal

pub returns-in-None : goal.returns-in-None
returns-in-None g c = rw (← c.self.view_is) (replica_none c.self.inside.members.items c.args.id (rw c.deref.ensures.value at c.in-None.ensures))

pub returns-in-Some : goal.returns-in-Some
returns-in-Some g c =
    rw (← c.self.view_is, c.replica.ensures) (replica_some c.self.inside.members.items c.args.id c.in-Some.place c.index.result.now (rw c.deref.ensures.value at c.in-Some.ensures) c.index.ensures)

pub index-requires : goal.index-requires
index-requires g c = rw c.deref.ensures.len at (place_within c.deref.result.now c.args.id c.in-Some.place (sym c.in-Some.ensures))
