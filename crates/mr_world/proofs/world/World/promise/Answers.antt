use Rattle.std.proofs.Common.{subst}
use Rattle.mr_world.specs.Promise.{KeepsRules}
use Rattle.mr_world.proofs.world.World.promise.Goals as goal

pub returns : goal.returns
returns g c = c.promise.ensures c.args.self.now (subst (KeepsRules g.K.Knowledge.form) c.self.view_is c.self.invariant.1)
