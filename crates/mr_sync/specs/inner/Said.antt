-- what is said of what is kept
use Rattle.std.specs.Prelude.{◌≡◌, ◌≢◌, ◌++◌, ℕ, List, [], Option, Some, None, map}
use Rattle.std.specs.List.{flat_map, filter_map}
use Rattle.std.specs.Global.{Vec}
use Rattle.mr_replica.specs.declared.event.Reply.{Reply}
use Rattle.mr_replica.specs.declared.event.Reply.TheVariants.{Gave, Vouched}
use Rattle.mr_talk.specs.Said.{Said}
use Rattle.mr_wire.specs.FrameSpelling.{frame_bytes}
use Rattle.mr_wire.specs.declared.frame.Frame.TheVariants as frame

-- the frame of a reply that is a record or a receipt
abbrev pub record_frame : Reply → Option (List ℕ)
record_frame (Gave sent) = Some (frame_bytes 2 (frame.Record sent))
record_frame reply = None

abbrev pub receipt_frame : Reply → Option (List ℕ)
receipt_frame (Vouched r) = Some (frame_bytes 2 (frame.Receipt r))
receipt_frame reply = None

-- the frames among replies, in their order
abbrev pub record_frames : List Reply → List (List ℕ)
record_frames = filter_map record_frame

abbrev pub receipt_frames : List Reply → List (List ℕ)
receipt_frames = filter_map receipt_frame

-- the bytes of each
abbrev pub bytes_of : List (Vec ℕ) → List (List ℕ)
bytes_of frames = map (λ (v : Vec ℕ). v.items) frames

-- the bytes of all, one frame behind another
abbrev pub joined : List (Vec ℕ) → List ℕ
joined frames = flat_map (λ (v : Vec ℕ). v.items) frames

-- the bytes are those of the frames in front, and the others are left
pub record FrontIs (old : List (Vec ℕ)) (bytes : List ℕ) (new : List (Vec ℕ)) : Type 0 where
  pub front : List (Vec ℕ)
  pub all : old ≡ front ++ new
  pub are : bytes ≡ joined front

-- a message tells the frames in front, or there are none
abbrev pub TellsFrames : List (Vec ℕ) → List (Vec ℕ) → Option Said → Type 0
TellsFrames old new None = (old ≡ []) × (new ≡ old)
TellsFrames old new (Some message) = FrontIs old message.bytes new × (message.bytes ≢ [])
