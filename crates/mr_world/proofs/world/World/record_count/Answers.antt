use Rattle.mr_world.proofs.Running.Pools.{records, counts}
use Rattle.mr_world.proofs.world.World.record_count.Goals as goal

pub returns : goal.returns
returns g c = rw (← c.self.view_is, c.count.ensures, c.records.ensures) (counts records c.self.inside.pools.records.frames c.self.invariant.0.records)
