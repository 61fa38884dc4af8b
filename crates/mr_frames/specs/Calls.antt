-- lists of calls of a reader with their answers, and what they come to
use Rattle.std.specs.Prelude.{◌≡◌, ◌≢◌, ℕ, List, [], ◌∷◌, Option, Some, None, Result, Ok, Err}
use Rattle.std.specs.List.{flat_map}
use Rattle.mr_wire.specs.declared.fault.WireFault.{WireFault}
use Rattle.mr_wire.specs.declared.fault.WireFault.TheVariants.{OutOfMemory, Truncated, TooLong, BadFormat, BadKind, BadBody}
use Rattle.mr_wire.specs.declared.frame.Frame.{Frame}
use Rattle.mr_wire.specs.Decoding.{decoded}
use Rattle.mr_frames.specs.declared.fault.FrameFault.{FrameFault}
use Rattle.mr_frames.specs.declared.fault.FrameFault.TheVariants.{Wire, Failed}
use Rattle.mr_frames.specs.Stream.{AreFrames}
use Rattle.mr_frames.specs.Reader.{Feeds, Nexts}

-- a call with its answer: a piece was fed, or the next frame was asked for
pub data Call : Type 0 where
  Fed : List ℕ → Result (Unit {0}) FrameFault → Call
  Asked : Result (Option Frame) FrameFault → Call

abbrev pub Steps : Option (List ℕ) → Call → Option (List ℕ) → Type 0
Steps old (Fed piece answer) new = Feeds old piece answer new
Steps old (Asked answer) new = Nexts old answer new

-- the calls, in their order, with these answers, lead from what the reader had to what it then has
abbrev pub Runs : Option (List ℕ) → List Call → Option (List ℕ) → Type 0
Runs old [] new = new ≡ old
Runs old (call ∷ calls) new = (between : Option (List ℕ)) × Steps old call between × Runs between calls new

-- the bytes that a call took
abbrev pub taken_by : Call → List ℕ
taken_by (Fed piece (Ok _)) = piece
taken_by (Fed piece (Err fault)) = []
taken_by (Asked answer) = []

-- the frame that a call gave
abbrev pub given_by : Call → List Frame
given_by (Asked (Ok (Some f))) = f ∷ []
given_by (Asked (Ok None)) = []
given_by (Asked (Err fault)) = []
given_by (Fed piece answer) = []

-- the fault of the stream that a call told; that memory ran out is none, nor is that a fault came before
abbrev pub told_by : Call → List WireFault
told_by (Asked (Ok found)) = []
told_by (Asked (Err (Wire OutOfMemory))) = []
told_by (Asked (Err (Wire Truncated))) = Truncated ∷ []
told_by (Asked (Err (Wire TooLong))) = TooLong ∷ []
told_by (Asked (Err (Wire BadFormat))) = BadFormat ∷ []
told_by (Asked (Err (Wire BadKind))) = BadKind ∷ []
told_by (Asked (Err (Wire BadBody))) = BadBody ∷ []
told_by (Asked (Err Failed)) = []
told_by (Fed piece answer) = []

abbrev pub fed : List Call → List ℕ
fed calls = flat_map taken_by calls

abbrev pub given : List Call → List Frame
given calls = flat_map given_by calls

abbrev pub told : List Call → List WireFault
told calls = flat_map told_by calls

-- With no fault told, a reader has the rest. With one told, that is the fault of the rest, and the reader has failed. No two are told.
abbrev pub Ends : List WireFault → List ℕ → Option (List ℕ) → Type 0
Ends [] rest state = state ≡ Some rest
Ends (fault ∷ []) rest state = (decoded rest ≡ Err fault) × (fault ≢ Truncated) × (state ≡ None)
Ends (fault ∷ other ∷ faults) rest state = ⊥

-- what the bytes of a stream came to: frames, and a rest that the reader has or that has a fault
pub record ComesTo (bytes : List ℕ) (frames : List Frame) (faults : List WireFault) (state : Option (List ℕ)) : Type 0 where
  pub rest : List ℕ
  pub spelled : AreFrames bytes frames rest
  pub ends : Ends faults rest state

-- the reader has no frame to give until more is fed
abbrev pub IsDrained : Option (List ℕ) → Type 0
IsDrained None = Unit {0}
IsDrained (Some rest) = decoded rest ≡ Err Truncated

-- two lists of calls told the same, and left the reader with the same
pub record AreAlike (calls others : List Call) (state other : Option (List ℕ)) : Type 0 where
  pub frames : given calls ≡ given others
  pub faults : told calls ≡ told others
  pub states : state ≡ other
