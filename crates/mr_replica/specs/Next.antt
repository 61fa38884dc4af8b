-- Next: a stream gives its next record.
use Rattle.std.specs.Prelude.{◌≡◌, ℕ, not, is_some, Option, None}
use Rattle.mr_store.specs.Holdings.{Holdings}
use Rattle.mr_session.specs.Table.{Table, open_at}
use Rattle.mr_session.specs.Stream.{Stream, GivesIn}
use Rattle.mr_wire.specs.Frames.{Sent}
use Rattle.mr_replica.specs.State.{State}
use Rattle.mr_replica.specs.Refusal.{◌orelse◌, refused_if}
use Rattle.mr_replica.specs.Admission.{log_full}
use Rattle.mr_replica.specs.Issue.{logged}
use Rattle.mr_replica.specs.declared.event.Event.TheVariants.{Next}
use Rattle.mr_replica.specs.declared.refusal.Refusal.{Refusal}
use Rattle.mr_replica.specs.declared.refusal.Refusal.TheVariants.{NoStream}

module _ {K : Type 0} where
  -- why it is refused: the stream must be open. A retired replica goes on telling others.
  abbrev pub next_refusal : State K → (stream : ℕ) → Option Refusal
  next_refusal s stream = refused_if (not (is_some (open_at s.streams stream))) NoStream orelse log_full s

  -- what is held now
  abbrev pub held_now : State K → Holdings
  held_now s = record { heads = s.heads; push_outs = s.push_outs; head_room = None; push_out_room = None }

  -- The stream gives its next record, of what is held now, and is closed with its End.
  abbrev pub GivesNext : State K → (stream : ℕ) → Sent → State K → Type 0
  GivesNext s stream sent new =
      (streams : Table Stream) × GivesIn s.id stream s.streams (held_now s) sent streams × (new ≡ logged (record s { streams = streams }) (Next stream))
