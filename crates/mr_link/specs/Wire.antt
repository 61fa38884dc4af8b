-- what passes a link in frames
use Rattle.std.specs.Prelude.{◌≡◌, ◌≢◌, ◌<◌, ◌+◌, ◌++◌, ℕ, List, [], ◌∷◌, length, Option, Some, None, option_map, Result, Ok, Err}
use Rattle.std.specs.Global.{Vec}
use Rattle.mr_wire.specs.declared.decoding.TheConstants.{MAX_REST_BYTES}
use Rattle.mr_wire.specs.declared.fault.WireFault.{WireFault}
use Rattle.mr_wire.specs.declared.fault.WireFault.TheVariants.{Truncated}
use Rattle.mr_wire.specs.declared.frame.Frame.{Frame}
use Rattle.mr_wire.specs.Decoding.{decoded}
use Rattle.mr_wire.specs.FrameSpelling.{rest_bytes}
use Rattle.mr_frames.specs.Stream.{AreFrames}
use Rattle.mr_frames.specs.Calls.{IsDrained}
use Rattle.mr_link.specs.Link.{LinkView, and_then}
use Rattle.mr_link.specs.declared.wire.Wire.{Wire}
use Rattle.mr_link.specs.declared.snag.Snag.{Snag}
use Rattle.mr_link.specs.declared.snag.Snag.TheVariants.{OutOfMemory, LinkDown, BadFrame, TooLong}

-- a wire: what its link tells, and the bytes that were received and are not read yet; none of these once bytes came that are no frame
pub record WireView : Type 0 where
  pub link : LinkView
  pub unread : Option (List ℕ)

-- the bytes of a piece that the reader had no memory for, if there is one
abbrev pub held_bytes : Option (Vec ℕ) → List ℕ
held_bytes None = []
held_bytes (Some piece) = piece.items

-- what the reader has, and then what is held
abbrev pub unread_in : Option (List ℕ) → Option (Vec ℕ) → Option (List ℕ)
unread_in reader held = option_map (λ rest. rest ++ held_bytes held) reader

abbrev pub wire_of : {L : Type 0} → (L → LinkView) → Wire L → WireView
wire_of tells w = record { link = tells w.link; unread = unread_in w.reader w.held }

-- a wire over which nothing was read
abbrev pub new_wire : LinkView → WireView
new_wire link = record { link = link; unread = Some [] }

-- no bytes where there are none
abbrev pub bytes_of : Option (List ℕ) → List ℕ
bytes_of None = []
bytes_of (Some bytes) = bytes

-- the bytes begin with some that are no frame, whatever comes behind them
pub record IsBad (bytes : List ℕ) : Type 0 where
  pub part : List ℕ
  pub more : List ℕ
  pub begins : bytes ≡ part ++ more
  pub fault : WireFault
  pub refused : decoded part ≡ Err fault
  pub not_cut : fault ≢ Truncated

-- Between two states frames were read and frames were sent: what was unread and then received is the spellings of those that were read, and then this rest; what was sent is the spellings of those that were sent.
pub record Passes (old : WireView) (read gone : List Frame) (rest : List ℕ) (new : WireView) : Type 0 where
  pub received_bytes : List ℕ
  pub received : new.link.received ≡ and_then old.link.received received_bytes
  pub read_frames : AreFrames (bytes_of old.unread ++ received_bytes) read rest
  pub sent_bytes : List ℕ
  pub sent : new.link.sent ≡ and_then old.link.sent sent_bytes
  pub sent_frames : AreFrames sent_bytes gone []

-- frames were read and sent between two states; the rest is still unread, and the link was neither down nor hung up
pub record PassesWell (old : WireView) (read gone : List Frame) (new : WireView) : Type 0 where
  pub rest : List ℕ
  pub passes : Passes old read gone rest new
  pub unread : new.unread ≡ Some rest
  pub downs : new.link.downs ≡ old.link.downs
  pub up : new.link.hung_up ≡ old.link.hung_up

-- frames were read and sent between two states; the rest is still unread, and then the link was down once, but not hung up
pub record GoesDown (old : WireView) (read gone : List Frame) (new : WireView) : Type 0 where
  pub rest : List ℕ
  pub passes : Passes old read gone rest new
  pub unread : new.unread ≡ Some rest
  pub downs : new.link.downs ≡ old.link.downs + 1
  pub up : new.link.hung_up ≡ old.link.hung_up

-- frames were read and sent between two states; the rest is no frame, and the link was neither down nor hung up
pub record IsSpoilt (old : WireView) (read gone : List Frame) (new : WireView) : Type 0 where
  pub rest : List ℕ
  pub passes : Passes old read gone rest new
  pub bad : IsBad rest
  pub unread : new.unread ≡ None
  pub downs : new.link.downs ≡ old.link.downs
  pub up : new.link.hung_up ≡ old.link.hung_up

-- What comes of reading a frame. Where the link is down no whole frame is left unread. Where memory runs out bytes may have come, and are still unread.
abbrev pub ReadsFrame : WireView → Result Frame Snag → WireView → Type 0
ReadsFrame old (Ok frame) new = PassesWell old (frame ∷ []) [] new
ReadsFrame old (Err LinkDown) new = GoesDown old [] [] new × IsDrained new.unread
ReadsFrame old (Err BadFrame) new = IsSpoilt old [] [] new
ReadsFrame old (Err OutOfMemory) new = PassesWell old [] [] new
ReadsFrame old (Err TooLong) new = ⊥

-- What comes of sending a frame. Where memory runs out, or where the frame is too long, nothing has changed.
abbrev pub WritesFrame : WireView → Frame → Result (Unit {0}) Snag → WireView → Type 0
WritesFrame old frame (Ok _) new = PassesWell old [] (frame ∷ []) new
WritesFrame old frame (Err LinkDown) new = GoesDown old [] [] new
WritesFrame old frame (Err OutOfMemory) new = new ≡ old
WritesFrame old frame (Err TooLong) new = (MAX_REST_BYTES < length (rest_bytes 2 frame)) × (new ≡ old)
WritesFrame old frame (Err BadFrame) new = ⊥
