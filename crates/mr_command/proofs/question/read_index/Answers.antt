use Rattle.std.proofs.Common.{rules}
use Rattle.mr_command.proofs.Readings.{mapped, two_read}
use Rattle.mr_command.proofs.question.read_index.Goals as goal

pub returns : goal.returns
returns g c = mapped _ _ _ c.map.ensures.cases (λ x y made. search rules) (two_read (g.R.Roster.scene c.args.roster.now) _ _ _ _ c.read_two-read.ensures (λ word r tells. search rules))
