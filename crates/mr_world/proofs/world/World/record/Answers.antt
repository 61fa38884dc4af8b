use Rattle.mr_world.proofs.Running.Pools.{records, gives}
use Rattle.mr_world.proofs.world.World.record.Goals as goal

pub returns : goal.returns
returns g c = rw (← c.self.view_is, c.get.ensures, c.records.ensures) (gives records c.self.inside.pools.records.frames c.args.number c.self.invariant.0.records)
