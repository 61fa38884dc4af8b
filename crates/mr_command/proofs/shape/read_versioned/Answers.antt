use Rattle.std.proofs.Common.{rules}
use Rattle.mr_command.proofs.Readings.{two_read}
use Rattle.mr_command.proofs.shape.read_versioned.Goals as goal

pub returns : goal.returns
returns g c = two_read (g.R.Roster.scene c.args.roster.now) _ _ _ _ c.read_two.ensures (λ word r tells. search rules)
