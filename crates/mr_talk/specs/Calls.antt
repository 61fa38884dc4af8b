-- lists of calls of a reader with their answers, and what they come to
use Rattle.std.specs.Prelude.{◌≡◌, ◌≢◌, ℕ, List, [], ◌∷◌, Option, Some, None, Result, Ok, Err}
use Rattle.std.specs.List.{flat_map}
use Rattle.mr_talk.specs.declared.fault.MessageFault.{MessageFault}
use Rattle.mr_talk.specs.declared.fault.MessageFault.TheVariants.{OutOfMemory, Truncated, BadKind, TooLong, Failed}
use Rattle.mr_talk.specs.Said.{Said}
use Rattle.mr_talk.specs.Messages.{decoded}
use Rattle.mr_talk.specs.Stream.{AreMessages}
use Rattle.mr_talk.specs.Reader.{Feeds, Nexts}

-- a call with its answer: a piece was fed, or the next message was asked for
pub data Call : Type 0 where
  Fed : List ℕ → Result (Unit {0}) MessageFault → Call
  Asked : Result (Option Said) MessageFault → Call

abbrev pub Steps : Option (List ℕ) → Call → Option (List ℕ) → Type 0
Steps old (Fed piece answer) new = Feeds old piece answer new
Steps old (Asked answer) new = Nexts old answer new

-- the calls, in their order, with these answers, lead from what the reader had to what it then has
abbrev pub Runs : Option (List ℕ) → List Call → Option (List ℕ) → Type 0
Runs old [] new = new ≡ old
Runs old (call ∷ calls) new = (between : Option (List ℕ)) × Steps old call between × Runs between calls new

-- the bytes that a call took
abbrev pub taken_by : Call → List ℕ
taken_by (Fed piece (Ok _)) = piece
taken_by (Fed piece (Err fault)) = []
taken_by (Asked answer) = []

-- the message that a call gave
abbrev pub given_by : Call → List Said
given_by (Asked (Ok (Some m))) = m ∷ []
given_by (Asked (Ok None)) = []
given_by (Asked (Err fault)) = []
given_by (Fed piece answer) = []

-- the fault of the stream that a call told; that memory ran out is none, nor is that a fault came before
abbrev pub told_by : Call → List MessageFault
told_by (Asked (Ok found)) = []
told_by (Asked (Err OutOfMemory)) = []
told_by (Asked (Err Truncated)) = Truncated ∷ []
told_by (Asked (Err BadKind)) = BadKind ∷ []
told_by (Asked (Err TooLong)) = TooLong ∷ []
told_by (Asked (Err Failed)) = []
told_by (Fed piece answer) = []

abbrev pub fed : List Call → List ℕ
fed calls = flat_map taken_by calls

abbrev pub given : List Call → List Said
given calls = flat_map given_by calls

abbrev pub told : List Call → List MessageFault
told calls = flat_map told_by calls

-- With no fault told, a reader has the rest. With one told, that is the fault of the rest, and the reader has failed. No two are told.
abbrev pub Ends : List MessageFault → List ℕ → Option (List ℕ) → Type 0
Ends [] rest state = state ≡ Some rest
Ends (fault ∷ []) rest state = (decoded rest ≡ Err fault) × (fault ≢ Truncated) × (state ≡ None)
Ends (fault ∷ other ∷ faults) rest state = ⊥

-- what the bytes of a stream came to: messages, and a rest that the reader has or that has a fault
pub record ComesTo (bytes : List ℕ) (messages : List Said) (faults : List MessageFault) (state : Option (List ℕ)) : Type 0 where
  pub rest : List ℕ
  pub spelled : AreMessages bytes messages rest
  pub ends : Ends faults rest state

-- the reader has no message to give until more is fed
abbrev pub IsDrained : Option (List ℕ) → Type 0
IsDrained None = Unit {0}
IsDrained (Some rest) = decoded rest ≡ Err Truncated

-- two lists of calls told the same, and left the reader with the same
pub record AreAlike (calls others : List Call) (state other : Option (List ℕ)) : Type 0 where
  pub messages : given calls ≡ given others
  pub faults : told calls ≡ told others
  pub states : state ≡ other
