use Rattle.mr_world.proofs.Running.Pools.{asks, counts}
use Rattle.mr_world.proofs.world.World.ask_count.Goals as goal

pub returns : goal.returns
returns g c = rw (← c.self.view_is, c.count.ensures, c.asks.ensures) (counts asks c.self.inside.pools.asks.frames c.self.invariant.0.asks)
