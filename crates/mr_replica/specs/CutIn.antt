-- CutIn: a session is closed. What was taken in it stays, and what it kept for its End is gone.
use Rattle.std.specs.Prelude.{ℕ, not, is_some, Option}
use Rattle.mr_session.specs.Table.{open_at, with_closed}
use Rattle.mr_replica.specs.State.{State}
use Rattle.mr_replica.specs.Refusal.{◌orelse◌, refused_if}
use Rattle.mr_replica.specs.Admission.{retired, log_full}
use Rattle.mr_replica.specs.declared.refusal.Refusal.{Refusal}
use Rattle.mr_replica.specs.declared.refusal.Refusal.TheVariants.{NoSession}

module _ {K : Type 0} where
  -- why it is refused: the session must be open
  abbrev pub cut_in_refusal : State K → (session : ℕ) → Option Refusal
  cut_in_refusal s session = retired s orelse refused_if (not (is_some (open_at s.sessions session))) NoSession orelse log_full s

  -- the session is closed
  abbrev pub cutting_in : State K → (session : ℕ) → State K
  cutting_in s session = record s { sessions = with_closed s.sessions session }
