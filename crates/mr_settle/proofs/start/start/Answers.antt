use Rattle.std.proofs.Common.{rules}
use Rattle.mr_settle.proofs.StartLemmas.{none_refused}
use Rattle.mr_settle.proofs.start.start.Goals as goal

pub unreachable-requires : goal.unreachable-requires
unreachable-requires g c = let none = none_refused c.args.ends.now c.in_ok-specs.specs.items c.requires c.in_ok-specs.ensures.specs c.in_ok-specs.ensures.limits in search rules
