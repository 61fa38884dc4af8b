-- Answer: a stream is opened for one who asks.
use Rattle.std.specs.Prelude.{◌≡◌, ◌+◌, ◌==◌, nat_le, ℕ, if◌then◌else◌, Option, List, [], length}
use Rattle.mr_forms.specs.Known.{Form, AreSame}
use Rattle.mr_filter.specs.Meaning.{covers}
use Rattle.mr_session.specs.Table.{with_opened}
use Rattle.mr_session.specs.declared.limits.TheConstants.{MAX_OPEN}
use Rattle.mr_session.specs.Stream.{claimed, new_stream}
pub use Rattle.mr_session.specs.Stream.{asked_of}
use Rattle.mr_wire.specs.Values.{Piece}
use Rattle.mr_wire.specs.Frames.{Question}
use Rattle.mr_wire.specs.declared.frame.Mode.{Mode}
use Rattle.mr_wire.specs.declared.frame.Mode.TheVariants.{Full, Partial}
use Rattle.mr_replica.specs.State.{State}
use Rattle.mr_replica.specs.Fragments.{HasHoleyPart}
use Rattle.mr_replica.specs.Pieces.{ArePiecesOf}
use Rattle.mr_replica.specs.Refusal.{◌orelse◌, refused_if}
use Rattle.mr_replica.specs.Admission.{log_full}
use Rattle.mr_replica.specs.Issue.{logged}
use Rattle.mr_replica.specs.declared.event.Event.TheVariants.{Answer}
use Rattle.mr_replica.specs.declared.refusal.Refusal.{Refusal}
use Rattle.mr_replica.specs.declared.refusal.Refusal.TheVariants.{OwnAsk, TooManyStreams}

module _ {K : Type 0} where
  -- why it is refused. A retired replica goes on telling others.
  abbrev pub answer_refusal : State K → Question → Option Refusal
  answer_refusal s ask =
      refused_if (ask.target == s.id) OwnAsk orelse refused_if (nat_le MAX_OPEN (length s.streams.open_ones)) TooManyStreams orelse log_full s

  -- whether all that the one who asks selects is selected here too
  abbrev pub mode_for : State K → Question → Mode
  mode_for s ask = if covers s.filter ask.filter then Full else Partial

  -- what a stream of this mode keeps of the knowledge, to tell it behind the heads: all of it, or nothing
  abbrev pub Keeps : Form K → Mode → K → List Piece → Type 0
  Keeps form Full knowledge know = ArePiecesOf (form.is_part knowledge) know × AreSame (form.known knowledge) (claimed know)
  Keeps form Partial knowledge know = know ≡ []

  -- it would keep a part that has no piece
  abbrev pub KeepsHoley : Form K → Mode → K → Type 0
  KeepsHoley form Full knowledge = HasHoleyPart (form.is_part knowledge)
  KeepsHoley form Partial knowledge = ⊥

  -- the stream is open
  abbrev pub answering : State K → Question → List Piece → State K
  answering s ask know = record s { streams = with_opened s.streams (new_stream (asked_of ask) (mode_for s ask) know) }

  -- The next stream is opened for the request, with the knowledge of this moment.
  abbrev pub Opens : Form K → State K → Question → (stream : ℕ) → State K → Type 0
  Opens form s ask stream new =
      (stream ≡ s.streams.opened + 1) × (know : List Piece) × Keeps form (mode_for s ask) s.knowledge know × (new ≡ logged (answering s ask know) (Answer ask))
