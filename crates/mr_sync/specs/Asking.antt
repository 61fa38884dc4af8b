-- requests
use Rattle.std.specs.Prelude.{◌≡◌, ◌≢◌, ◌⊎◌, ◌<◌, ℕ, List, length, Option, Some, None, option_map, Ok, Err}
use Rattle.mr_itemset.specs.Normal.{Normal}
use Rattle.mr_itemset.specs.Sparing.{sparing_form}
use Rattle.mr_journal.specs.declared.journal.Journal.{Journal}
use Rattle.mr_kept.specs.Answered.{Answered}
use Rattle.mr_lookup.specs.Versions.{versions_told}
use Rattle.mr_replica.specs.State.{State}
use Rattle.mr_replica.specs.Step.{Steps}
use Rattle.mr_replica.specs.declared.event.Event.TheVariants.{Answer, Pull}
use Rattle.mr_replica.specs.declared.event.Reply.TheVariants.{Asked, Streaming}
use Rattle.mr_talk.specs.declared.hello.Hello.{Hello}
use Rattle.mr_wire.specs.Decoding.{decoded}
use Rattle.mr_wire.specs.FrameSpelling.{frame_bytes}
use Rattle.mr_wire.specs.Frames.{Question}
use Rattle.mr_wire.specs.Grammar.{Spells}
use Rattle.mr_wire.specs.declared.frame.Frame.{Frame as AnyFrame}
use Rattle.mr_wire.specs.declared.frame.Frame.TheVariants as frames
use Rattle.mr_kept.specs.declared.fault.KeptFault.{KeptFault}
use Rattle.mr_sync.specs.declared.fault.SyncFault.{SyncFault}
use Rattle.mr_sync.specs.declared.fault.SyncFault.TheVariants.{OutOfMemory, Kept, NotMet, Frame, OtherFrame, OtherSide, BadList, OtherHistory}
use Rattle.mr_sync.specs.declared.marks.Mark.{Mark}
use Rattle.mr_sync.specs.declared.marks.TheConstants.{MARK_BYTES}
use Rattle.mr_sync.specs.Marks.{HasOtherMark, HasOwnMark, IsMarkOf, IsMarked}

-- the bytes are the frame of the request by which a replica opens its next session
pub record IsPullOf (old : State Normal) (bytes : List ℕ) (new : State Normal) : Type 0 where
  pub question : Question
  pub opened : Steps sparing_form old Pull (Ok (Asked question)) new
  pub frame_is : bytes ≡ frame_bytes 2 (frames.Ask question)

-- the bytes are a mark of the other's history, by what the replica's log tells, and such a frame
pub record IsMarkedPull (old : State Normal) (other : ℕ) (bytes : List ℕ) (new : State Normal) : Type 0 where
  pub mark : Mark
  pub pull : List ℕ
  pub marked : IsMarked bytes mark pull
  pub mark_is : IsMarkOf (versions_told old.id old.log) other mark
  pub pulled : IsPullOf old pull new

-- the bytes spell a request of the target, for which the replica has opened a stream
pub record Answers (old : State Normal) (target : ℕ) (bytes : List ℕ) (new : State Normal) : Type 0 where
  pub question : Question
  pub format : ℕ
  pub stream : ℕ
  pub spelled : Spells format (frames.Ask question) bytes
  pub target_is : question.target ≡ target
  pub opened : Steps sparing_form old (Answer question) (Ok (Streaming stream)) new

-- a frame is no request
abbrev pub IsNoAsk : AnyFrame → Type 0
IsNoAsk (frames.Record sent) = Unit {0}
IsNoAsk (frames.Ask question) = ⊥
IsNoAsk (frames.Receipt receipt) = Unit {0}

-- the bytes begin with a frame that isn't all of them, or that is no request
pub record BeginsOtherwise (bytes : List ℕ) : Type 0 where
  pub front : AnyFrame
  pub used : ℕ
  pub begins : decoded bytes ≡ Ok (front, used)
  pub otherwise : (used ≢ length bytes) ⊎ IsNoAsk front

-- the bytes are the frame of this request, all of them
abbrev pub IsAskFrame : List ℕ → Question → Type 0
IsAskFrame bytes question = decoded bytes ≡ Ok (frames.Ask question, length bytes)

-- why the bytes are no request of the target: by the first thing that is wrong with them as a frame; or they begin with a frame that isn't all of them, or is no request; or they are a request of another. Or memory runs out.
abbrev pub IsNoRequestOf : (target : ℕ) → (bytes : List ℕ) → SyncFault → Type 0
IsNoRequestOf target bytes OutOfMemory = Unit {0}
IsNoRequestOf target bytes (Frame e) = decoded bytes ≡ Err e
IsNoRequestOf target bytes OtherFrame = BeginsOtherwise bytes
IsNoRequestOf target bytes OtherSide = (question : Question) × IsAskFrame bytes question × (question.target ≢ target)
IsNoRequestOf target bytes fault = ⊥

-- the bytes are a request of the target; and the replica, which has this journal, refuses it so, or can't note it
pub record IsRefused {D : Type 0} (journal : Journal D) (old : State Normal) (target : ℕ) (bytes : List ℕ) (new : State Normal) (fault : KeptFault) : Type 0 where
  pub question : Question
  pub spelled : IsAskFrame bytes question
  pub target_is : question.target ≡ target
  pub refused : Answered sparing_form journal old (Answer question) (Err fault) new

-- why no stream is opened for bytes; the replica, which has this journal, is as it was
abbrev pub IsAnswerFault : {D : Type 0} (journal : Journal D) (old : State Normal) (target : ℕ) (bytes : List ℕ) (new : State Normal) → SyncFault → Type 0
IsAnswerFault journal old target bytes new (Kept e) = IsRefused journal old target bytes new e × (new ≡ old)
IsAnswerFault journal old target bytes new fault = IsNoRequestOf target bytes fault × (new ≡ old)

-- the bytes begin with a mark of the replica's history with which its log agrees, and go on with this
abbrev pub IsOwnMarked : State Normal → (bytes rest : List ℕ) → Type 0
IsOwnMarked s = HasOwnMark s.id (versions_told s.id s.log)

-- they do, and it has opened a stream for the request behind the mark
pub record TakesAsk (old : State Normal) (target : ℕ) (bytes : List ℕ) (new : State Normal) : Type 0 where
  pub rest : List ℕ
  pub marked : IsOwnMarked old bytes rest
  pub answers : Answers old target rest new

-- Why a request isn't taken: the bytes have no room for a mark; or they begin with a mark of another history, with which the log doesn't agree; or they begin with one with which it agrees, and no stream is opened for what stands behind it. The replica is as it was.
abbrev pub IsAskFault : {D : Type 0} (journal : Journal D) (old : State Normal) (target : ℕ) (bytes : List ℕ) (new : State Normal) → SyncFault → Type 0
IsAskFault journal old target bytes new OutOfMemory = new ≡ old
IsAskFault journal old target bytes new BadList = (length bytes < MARK_BYTES) × (new ≡ old)
IsAskFault journal old target bytes new (OtherHistory id) = (id ≡ old.id) × HasOtherMark old.id (versions_told old.id old.log) bytes × (new ≡ old)
IsAskFault journal old target bytes new fault = (rest : List ℕ) × IsOwnMarked old bytes rest × IsAnswerFault journal old target rest new fault

-- the other side said who it is, and the bytes ask it
pub record AsksMet (theirs : Option Hello) (old : State Normal) (bytes : List ℕ) (new : State Normal) : Type 0 where
  pub other : ℕ
  pub met : option_map (λ h. h.id) theirs ≡ Some other
  pub asks : IsMarkedPull old other bytes new

-- it did, and its request is taken
pub record TakesMetAsk (theirs : Option Hello) (old : State Normal) (bytes : List ℕ) (new : State Normal) : Type 0 where
  pub other : ℕ
  pub met : option_map (λ h. h.id) theirs ≡ Some other
  pub takes : TakesAsk old other bytes new

-- why the other side's request isn't taken: it hasn't said who it is, and the replica is as it was; or it has, and its request is refused
abbrev pub IsMetAskFault : {D : Type 0} (journal : Journal D) → Option Hello → (old : State Normal) (bytes : List ℕ) (new : State Normal) → SyncFault → Type 0
IsMetAskFault journal None old bytes new fault = (fault ≡ NotMet) × (new ≡ old)
IsMetAskFault journal (Some theirs) old bytes new fault = IsAskFault journal old theirs.id bytes new fault
