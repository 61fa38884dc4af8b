use Rattle.std.proofs.Common.{arith}
use Rattle.std.proofs.lemmas.Grind.{common_steps}
use Rattle.mr_script.proofs.Counted.{Accounts-Consumes}
use Rattle.mr_script.proofs.source.Source.next_line.Goals as goal

pub returns-clause-counted : goal.returns-clause-counted
returns-clause-counted g c script was =
    Accounts-Consumes script _ _ _ _ _ was c.append_line.ensures.none_lost (grind (arith, common_steps))
