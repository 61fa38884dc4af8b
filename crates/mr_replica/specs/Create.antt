-- Create: the first version of a new item.
use Rattle.std.specs.Prelude.{Option, []}
use Rattle.mr_mail.specs.Mail.{Mail}
use Rattle.mr_replica.specs.State.{State, next_version}
use Rattle.mr_replica.specs.Refusal.{◌orelse◌}
use Rattle.mr_replica.specs.Admission.{retired, log_full}
use Rattle.mr_replica.specs.Issue.{Issue}
use Rattle.mr_replica.specs.declared.refusal.Refusal.{Refusal}

module _ {K : Type 0} where
  -- why it is refused
  abbrev pub create_refusal : State K → Option Refusal
  create_refusal s = retired s orelse log_full s

  -- what it issues: the version is its own item
  abbrev pub created : State K → Mail → Issue
  created s message = record { item = next_version s; bases = []; message = message }
