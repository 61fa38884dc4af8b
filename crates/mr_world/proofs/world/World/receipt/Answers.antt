use Rattle.mr_world.proofs.Running.Pools.{receipts, gives}
use Rattle.mr_world.proofs.world.World.receipt.Goals as goal

pub returns : goal.returns
returns g c = rw (← c.self.view_is, c.get.ensures, c.receipts.ensures) (gives receipts c.self.inside.pools.receipts.frames c.args.number c.self.invariant.0.receipts)
