-- what a fault of a join says of logs
use Rattle.std.specs.Prelude.{◌≡◌}
use Rattle.mr_settle.specs.declared.fault.JoinFault.{JoinFault}
use Rattle.mr_settle.specs.declared.fault.JoinFault.TheVariants as fault
use Rattle.mr_audit.specs.declared.verdict.Verdict.{Verdict}
use Rattle.mr_audit.specs.declared.verdict.Verdict.TheVariants.{Unexplained}

-- what is said of logs by the fault at which they don't join
abbrev pub Says : JoinFault → Verdict → Type 0
Says fault.OutOfMemory verdict = ⊥
Says (fault.Unexplained replica event) verdict = verdict ≡ Unexplained replica event
