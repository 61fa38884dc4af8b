-- What a reader has is the bytes behind the frames that it gave, or none once the stream has had a fault.
use Rattle.std.specs.Prelude.{◌≡◌, ℕ, List, [], ◌∷◌, ◌++◌, Option, Some, None, Result, Ok, Err, IsOk}
use Rattle.mr_wire.specs.declared.fault.WireFault.TheVariants.{OutOfMemory, Truncated, TooLong, BadFormat, BadKind, BadBody}
use Rattle.mr_wire.specs.declared.frame.Frame.{Frame}
use Rattle.mr_wire.specs.Decoding.{decoded}
use Rattle.mr_frames.specs.declared.fault.FrameFault.{FrameFault}
use Rattle.mr_frames.specs.declared.fault.FrameFault.TheVariants.{Wire, Failed}
use Rattle.mr_frames.specs.Stream.{Begins}

-- A piece goes behind the rest. Where there is no memory nothing has changed.
abbrev pub Feeds : Option (List ℕ) → List ℕ → Result (Unit {0}) FrameFault → Option (List ℕ) → Type 0
Feeds None piece answer new = (answer ≡ Err Failed) × (new ≡ None)
Feeds (Some rest) piece (Ok _) new = new ≡ Some (rest ++ piece)
Feeds (Some rest) piece (Err fault) new = (fault ≡ Wire OutOfMemory) × (new ≡ Some rest)

-- A frame is one that the rest begins with, and leaves what follows it. None is for a rest that lacks the end of a frame. A fault is that of the rest, and the reader fails with it.
abbrev pub Nexts : Option (List ℕ) → Result (Option Frame) FrameFault → Option (List ℕ) → Type 0
Nexts None answer new = (answer ≡ Err Failed) × (new ≡ None)
Nexts (Some rest) (Ok (Some f)) new = (left : List ℕ) × (new ≡ Some left) × Begins rest f left
Nexts (Some rest) (Ok None) new = (decoded rest ≡ Err Truncated) × (new ≡ Some rest)
Nexts (Some rest) (Err (Wire OutOfMemory)) new = IsOk (decoded rest) × (new ≡ Some rest)
Nexts (Some rest) (Err (Wire Truncated)) new = ⊥
Nexts (Some rest) (Err (Wire TooLong)) new = (decoded rest ≡ Err TooLong) × (new ≡ None)
Nexts (Some rest) (Err (Wire BadFormat)) new = (decoded rest ≡ Err BadFormat) × (new ≡ None)
Nexts (Some rest) (Err (Wire BadKind)) new = (decoded rest ≡ Err BadKind) × (new ≡ None)
Nexts (Some rest) (Err (Wire BadBody)) new = (decoded rest ≡ Err BadBody) × (new ≡ None)
Nexts (Some rest) (Err Failed) new = ⊥

-- how a stream ends: well only where nothing is left
abbrev pub ending : Option (List ℕ) → Result (Unit {0}) FrameFault
ending None = Err Failed
ending (Some []) = Ok tt
ending (Some (b ∷ bytes)) = Err (Wire Truncated)
