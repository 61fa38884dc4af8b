-- what keeps a replica from admitting an event, whatever the event asks for
use Rattle.std.specs.Prelude.{nat_le, Option, length}
use Rattle.mr_replica.specs.State.{State}
use Rattle.mr_replica.specs.Refusal.{refused_if}
use Rattle.mr_replica.specs.declared.refusal.Refusal.{Refusal}
use Rattle.mr_replica.specs.declared.refusal.Refusal.TheVariants.{Retired, LogFull}

module _ {K : Type 0} where
  -- it has retired
  abbrev pub retired : State K → Option Refusal
  retired s = refused_if s.is_retired Retired

  -- its log has no place
  abbrev pub log_full : State K → Option Refusal
  log_full s = refused_if (nat_le s.event_limit (length s.log)) LogFull
