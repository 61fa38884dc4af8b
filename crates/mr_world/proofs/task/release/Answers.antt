use Rattle.std.proofs.Common.{◌≡◌}
use Rattle.mr_world.specs.Asked.{releasing}
use Rattle.mr_world.proofs.Running.Pools.{receipts}
use Rattle.mr_world.proofs.Running.Tasks.{found, lost}
use Rattle.mr_world.proofs.task.release.Goals as goal

pub unreachable-requires : goal.unreachable-requires
unreachable-requires c = let x = found receipts c.args.receipts.now.frames c.args.number c.requires _ c.in_ok-receipt.ensures in c.in_default.not-Receipt x.0 x.2

pub returns-in_err-receipt : goal.returns-in_err-receipt
returns-in_err-receipt c = lost receipts c.args.receipts.now.frames c.args.number c.requires releasing _ c.from_residual.result c.from_residual.ensures.1 c.in_err-receipt.ensures

pub returns : goal.returns
returns c =
    let x = found receipts c.args.receipts.now.frames c.args.number c.requires _ c.in_ok-receipt.ensures in
    let same : x.0 ≡ c.in-Receipt.receipt = cc (x.2, c.in-Receipt.is) in rw x.1 (cc)
