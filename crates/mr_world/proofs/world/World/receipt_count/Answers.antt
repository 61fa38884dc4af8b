use Rattle.mr_world.proofs.Running.Pools.{receipts, counts}
use Rattle.mr_world.proofs.world.World.receipt_count.Goals as goal

pub returns : goal.returns
returns g c = rw (← c.self.view_is, c.count.ensures, c.receipts.ensures) (counts receipts c.self.inside.pools.receipts.frames c.self.invariant.0.receipts)
