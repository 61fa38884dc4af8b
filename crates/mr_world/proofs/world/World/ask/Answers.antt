use Rattle.mr_world.proofs.Running.Pools.{asks, gives}
use Rattle.mr_world.proofs.world.World.ask.Goals as goal

pub returns : goal.returns
returns g c = rw (← c.self.view_is, c.get.ensures, c.asks.ensures) (gives asks c.self.inside.pools.asks.frames c.args.number c.self.invariant.0.asks)
