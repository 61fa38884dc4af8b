-- the frames that replicas gave one another, as they are kept
use Rattle.std.specs.Prelude.{◌-◌, ◌==◌, ℕ, if◌then◌else◌, All, Option, Some, None, List, slice_get, reverse, Result, Ok, Err}
use Rattle.std.specs.List.{filter_map}
use Rattle.mr_wire.specs.Frames.{Question, Sent}
use Rattle.mr_wire.specs.Decoding.{decoded}
use Rattle.mr_wire.specs.Grammar.{Spells}
use Rattle.mr_wire.specs.declared.fault.WireFault.{WireFault}
use Rattle.mr_wire.specs.declared.frame.Frame.{Frame}
use Rattle.mr_wire.specs.declared.frame.Frame.TheVariants as frame
use Rattle.mr_wire.specs.declared.frame.Receipt.{Receipt}

-- a pool's frames, the oldest first, and how many more it has room for
pub record FrameList : Type 0 where
  pub frames : List (List ℕ)
  pub room : ℕ

-- the three pools
pub record PoolList : Type 0 where
  pub asks : FrameList
  pub records : FrameList
  pub receipts : FrameList

-- the element of that number, from 1, of a list that has the oldest first
abbrev pub at_number : {A : Type 0} → List A → ℕ → Option A
at_number xs n = if n == 0 then None else slice_get xs (n - 1)

-- ---- what the bytes of a pool are

-- the frame that was found at the front of some bytes
abbrev pub found_frame : Result (Frame × ℕ) WireFault → Option Frame
found_frame (Ok found) = Some found.0
found_frame (Err fault) = None

-- the frame that the bytes begin with
unfoldable pub frame_in : List ℕ → Option Frame
frame_in bytes = found_frame (decoded bytes)

-- what kind of frame it is
abbrev pub question_of : Option Frame → Option Question
question_of (Some (frame.Ask question)) = Some question
question_of _ = None

abbrev pub sent_of : Option Frame → Option Sent
sent_of (Some (frame.Record sent)) = Some sent
sent_of _ = None

abbrev pub receipt_of : Option Frame → Option Receipt
receipt_of (Some (frame.Receipt receipt)) = Some receipt
receipt_of _ = None

-- what the frames of a kind say, the newest first
unfoldable pub values_in : {A : Type 0} → (Option Frame → Option A) → List (List ℕ) → List A
values_in value_of frames = reverse (filter_map (λ bytes. value_of (frame_in bytes)) frames)

-- the requests, records and receipts among them
abbrev pub questions_in : List (List ℕ) → List Question
questions_in = values_in question_of

abbrev pub sents_in : List (List ℕ) → List Sent
sents_in = values_in sent_of

abbrev pub receipts_in : List (List ℕ) → List Receipt
receipts_in = values_in receipt_of

-- the bytes are a frame of a kind, in the format that is written
abbrev pub IsFrameOf : {A : Type 0} → (A → Frame) → List ℕ → Type 0
IsFrameOf {A} frame_of bytes = (x : A) × Spells 2 (frame_of x) bytes

-- they are a request, a record or a receipt
abbrev pub IsAskFrame : List ℕ → Type 0
IsAskFrame = IsFrameOf (λ x. frame.Ask x)

abbrev pub IsRecordFrame : List ℕ → Type 0
IsRecordFrame = IsFrameOf (λ x. frame.Record x)

abbrev pub IsReceiptFrame : List ℕ → Type 0
IsReceiptFrame = IsFrameOf (λ x. frame.Receipt x)

-- each pool has frames of its kind
pub record AreFrames (p : PoolList) : Type 0 where
  pub asks : All IsAskFrame p.asks.frames
  pub records : All IsRecordFrame p.records.frames
  pub receipts : All IsReceiptFrame p.receipts.frames

-- the frame is there just where the pool's list has something of that number, and then it spells that
abbrev pub GivesFrame : {A : Type 0} → (A → Frame) → Option A → Option (List ℕ) → Type 0
GivesFrame frame_of None None = Unit {0}
GivesFrame frame_of (Some x) (Some bytes) = Spells 2 (frame_of x) bytes
GivesFrame frame_of x bytes = ⊥
