use Rattle.std.proofs.Common.{◌≡◌}
use Rattle.mr_world.specs.Asked.{answering}
use Rattle.mr_world.proofs.Running.Pools.{asks}
use Rattle.mr_world.proofs.Running.Tasks.{found, lost}
use Rattle.mr_world.proofs.task.answer.Goals as goal

pub unreachable-requires : goal.unreachable-requires
unreachable-requires c = let x = found asks c.args.asks.now.frames c.args.number c.requires _ c.in_ok-ask.ensures in c.in_default.not-Ask x.0 x.2

pub returns-in_err-ask : goal.returns-in_err-ask
returns-in_err-ask c = lost asks c.args.asks.now.frames c.args.number c.requires answering _ c.from_residual.result c.from_residual.ensures.1 c.in_err-ask.ensures

pub returns : goal.returns
returns c =
    let x = found asks c.args.asks.now.frames c.args.number c.requires _ c.in_ok-ask.ensures in
    let same : x.0 ≡ c.in-Ask.ask = cc (x.2, c.in-Ask.is) in rw x.1 (cc)
