-- CutOut: a stream is closed, whatever is left of it.
use Rattle.std.specs.Prelude.{ℕ, not, is_some, Option}
use Rattle.mr_session.specs.Table.{open_at, with_closed}
use Rattle.mr_replica.specs.State.{State}
use Rattle.mr_replica.specs.Refusal.{◌orelse◌, refused_if}
use Rattle.mr_replica.specs.Admission.{log_full}
use Rattle.mr_replica.specs.declared.refusal.Refusal.{Refusal}
use Rattle.mr_replica.specs.declared.refusal.Refusal.TheVariants.{NoStream}

module _ {K : Type 0} where
  -- why it is refused: the stream must be open. A retired replica goes on telling others.
  abbrev pub cut_out_refusal : State K → (stream : ℕ) → Option Refusal
  cut_out_refusal s stream = refused_if (not (is_some (open_at s.streams stream))) NoStream orelse log_full s

  -- the stream is closed
  abbrev pub cutting_out : State K → (stream : ℕ) → State K
  cutting_out s stream = record s { streams = with_closed s.streams stream }
