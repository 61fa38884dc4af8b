use Rattle.mr_world.specs.Asked.{receiving}
use Rattle.mr_world.proofs.Running.Pools.{records}
use Rattle.mr_world.proofs.Running.Tasks.{found, lost}
use Rattle.mr_world.proofs.task.receive.Goals as goal

pub returns : goal.returns
returns c = let x = found records c.args.records.now.frames c.args.number c.requires _ c.in_ok-frame.ensures in let same = x.2 in rw x.1 (cc)

pub returns-in_err-frame : goal.returns-in_err-frame
returns-in_err-frame c = lost records c.args.records.now.frames c.args.number c.requires receiving _ c.from_residual.result c.from_residual.ensures.1 c.in_err-frame.ensures
