-- a stream of bytes: the spellings of frames, one behind another, and then what is no whole frame
use Rattle.std.specs.Prelude.{◌≡◌, ℕ, List, [], ◌∷◌, ◌++◌, length, ◌+◌, ◌<◌}
use Rattle.mr_wire.specs.declared.decoding.TheConstants.{MAX_REST_BYTES}
use Rattle.mr_wire.specs.declared.frame.Frame.{Frame}
use Rattle.mr_wire.specs.Grammar.{Spells}

-- the bytes begin with a spelling of the frame, and go on with these
pub record Begins (bytes : List ℕ) (f : Frame) (left : List ℕ) : Type 0 where
  pub format : ℕ
  pub text : List ℕ
  pub spelled : Spells format f text
  pub whole : bytes ≡ text ++ left

-- the bytes are spellings of the frames, one behind another, and then the rest
abbrev pub AreFrames : List ℕ → List Frame → List ℕ → Type 0
AreFrames bytes [] rest = bytes ≡ rest
AreFrames bytes (f ∷ frames) rest = (left : List ℕ) × Begins bytes f left × AreFrames left frames rest

-- fewer bytes than the longest frame has: four of the length, and what stands behind it
abbrev pub IsPart : List ℕ → Type 0
IsPart rest = length rest < 4 + MAX_REST_BYTES
