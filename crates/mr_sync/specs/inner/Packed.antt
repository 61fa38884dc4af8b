-- records that are packed into a message
use Rattle.std.specs.Prelude.{◌≡◌, ◌≢◌, ◌≤◌, ◌+◌, ◌*◌, ◌++◌, ℕ, List, [], length, Option, Some, None}
use Rattle.std.specs.Global.{Vec}
use Rattle.mr_talk.specs.Packed.{Unpacks}
use Rattle.mr_talk.specs.Said.{Said}
use Rattle.mr_talk.specs.declared.kind.TheConstants.{MAX_FRAMES_BYTES, MAX_PACKED_BYTES}
use Rattle.mr_sync.specs.inner.Said.{joined}

-- the bytes are the frames in front, packed behind one frame and with another as the last, and the others are left; the frames are as few as are unpacked from a message
pub record PacksFront (old : List (Vec ℕ)) (before bytes : List ℕ) (new : List (Vec ℕ)) (after : List ℕ) : Type 0 where
  pub front : List (Vec ℕ)
  pub all : old ≡ front ++ new
  pub are : Unpacks before bytes (joined front) after
  pub few : length (joined front) ≤ MAX_FRAMES_BYTES

-- so it is while the message has room for so many bytes more
pub record PacksSoFar (old : List (Vec ℕ)) (before bytes : List ℕ) (new : List (Vec ℕ)) (after : List ℕ) (room : ℕ) : Type 0 where
  pub front : List (Vec ℕ)
  pub all : old ≡ front ++ new
  pub are : Unpacks before bytes (joined front) after
  pub few : length (joined front) + 6 * length front + room ≤ MAX_PACKED_BYTES
  pub short : length bytes + room ≤ MAX_PACKED_BYTES

-- a message tells the frames in front, or there are none
abbrev pub TellsPacked : List (Vec ℕ) → (before : List ℕ) → List (Vec ℕ) → (after : List ℕ) → Option Said → Type 0
TellsPacked old before new after None = (old ≡ []) × (new ≡ old) × (after ≡ before)
TellsPacked old before new after (Some message) = PacksFront old before message.bytes new after × (message.bytes ≢ [])
