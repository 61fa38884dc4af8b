-- What a reader has is the bytes behind the messages that it gave, or none once the stream has had a fault.
use Rattle.std.specs.Prelude.{◌≡◌, ℕ, List, [], ◌∷◌, ◌++◌, Option, Some, None, Result, Ok, Err, IsOk}
use Rattle.mr_talk.specs.declared.fault.MessageFault.{MessageFault}
use Rattle.mr_talk.specs.declared.fault.MessageFault.TheVariants.{OutOfMemory, Truncated, BadKind, TooLong, Failed}
use Rattle.mr_talk.specs.Said.{Said}
use Rattle.mr_talk.specs.Messages.{decoded}
use Rattle.mr_talk.specs.Stream.{Begins}

-- A piece goes behind the rest. Where there is no memory nothing has changed.
abbrev pub Feeds : Option (List ℕ) → List ℕ → Result (Unit {0}) MessageFault → Option (List ℕ) → Type 0
Feeds None piece answer new = (answer ≡ Err Failed) × (new ≡ None)
Feeds (Some rest) piece (Ok _) new = new ≡ Some (rest ++ piece)
Feeds (Some rest) piece (Err fault) new = (fault ≡ OutOfMemory) × (new ≡ Some rest)

-- A message is one that the rest begins with, and leaves what follows it. None is for a rest that lacks the end of a message. A fault is that of the rest, and the reader fails with it.
abbrev pub Nexts : Option (List ℕ) → Result (Option Said) MessageFault → Option (List ℕ) → Type 0
Nexts None answer new = (answer ≡ Err Failed) × (new ≡ None)
Nexts (Some rest) (Ok (Some m)) new = (left : List ℕ) × (new ≡ Some left) × Begins rest m left
Nexts (Some rest) (Ok None) new = (decoded rest ≡ Err Truncated) × (new ≡ Some rest)
Nexts (Some rest) (Err OutOfMemory) new = IsOk (decoded rest) × (new ≡ Some rest)
Nexts (Some rest) (Err Truncated) new = ⊥
Nexts (Some rest) (Err BadKind) new = (decoded rest ≡ Err BadKind) × (new ≡ None)
Nexts (Some rest) (Err TooLong) new = (decoded rest ≡ Err TooLong) × (new ≡ None)
Nexts (Some rest) (Err Failed) new = ⊥

-- how a stream ends: well only where nothing is left
abbrev pub ending : Option (List ℕ) → Result (Unit {0}) MessageFault
ending None = Err Failed
ending (Some []) = Ok tt
ending (Some (b ∷ bytes)) = Err Truncated
