-- a line, piece by piece
use Rattle.std.specs.Prelude.{◌≡◌, ℕ, List, [], ◌∷◌, ◌++◌, Option, Some, None, Result, Ok, Err}
use Rattle.mr_talk.specs.declared.fault.LineFault.{LineFault}
use Rattle.mr_talk.specs.declared.fault.LineFault.TheVariants.{Message, Closed}
use Rattle.mr_talk.specs.declared.fault.MessageFault.TheVariants.{OutOfMemory, Truncated}

-- known bytes stay as they are
abbrev pub IsSame : Option (List ℕ) → Option (List ℕ) → Type 0
IsSame None new = Unit {0}
IsSame (Some bytes) new = new ≡ Some bytes

-- why there is no message at the end of the stream, by what the reader has
abbrev pub Ends : Option (List ℕ) → LineFault → Type 0
Ends None fault = Unit {0}
Ends (Some []) fault = fault ≡ Closed
Ends (Some (b ∷ bytes)) fault = fault ≡ Message Truncated

-- A piece goes behind what the reader has. Where there is no memory for it, the reader has failed.
abbrev pub TakesPiece : Option (List ℕ) → List ℕ → Result (Unit {0}) LineFault → Option (List ℕ) → Type 0
TakesPiece None piece (Ok _) new = ⊥
TakesPiece None piece (Err fault) new = new ≡ None
TakesPiece (Some rest) piece (Ok _) new = new ≡ Some (rest ++ piece)
TakesPiece (Some rest) piece (Err fault) new = (fault ≡ Message OutOfMemory) × (new ≡ None)
