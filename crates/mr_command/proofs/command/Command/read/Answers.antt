use Rattle.std.proofs.Common.{◌∙◌, sym}
use Rattle.mr_command.specs.Command.{reads_command}
use Rattle.mr_command.proofs.There.{command-there}
use Rattle.mr_command.proofs.command.Command.read.Goals as goal

pub returns-clause-there : goal.returns-clause-there
returns-clause-there g c =
    let exact : reads_command (g.R.Roster.scene c.args.roster.now) c.args.line.now c.read_named.result = rw (sym c.new-words.ensures ∙ c.in_ok-name.ensures) c.read_named.ensures in
    command-there (g.R.Roster.scene c.args.roster.now) c.args.line.now c.read_named.result exact
