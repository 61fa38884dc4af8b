-- what a line has ahead of it, and what becomes of it
use Rattle.std.specs.Prelude.{◌≡◌, ◌≢◌, ◌<◌, ◌≤◌, ◌⊎◌, ℕ, List, [], ◌++◌, length, Option, Some, None, Result, Ok, Err}
use Rattle.std.specs.Io.KnownBytes.{Appends}
use Rattle.mr_talk.specs.declared.fault.LineFault.{LineFault}
use Rattle.mr_talk.specs.declared.fault.LineFault.TheVariants.{Message, Closed, Read, Write}
use Rattle.mr_talk.specs.declared.fault.MessageFault.{MessageFault}
use Rattle.mr_talk.specs.declared.fault.MessageFault.TheVariants.{OutOfMemory, Truncated, BadKind, TooLong, Failed}
use Rattle.mr_talk.specs.declared.kind.Kind.{Kind}
use Rattle.mr_talk.specs.Kinds.{limit_of}
use Rattle.mr_talk.specs.Said.{Said}
use Rattle.mr_talk.specs.Messages.{decoded}
use Rattle.mr_talk.specs.Stream.{Begins}

-- the bytes that the reader has, and then those that the stream will give, where both are known
abbrev pub ahead : Option (List ℕ) → Option (List ℕ) → Option (List ℕ)
ahead None bytes = None
ahead (Some rest) None = None
ahead (Some rest) (Some bytes) = Some (rest ++ bytes)

-- why a message isn't sent: its bytes are more than one of its kind may have; or else the stream took no more
abbrev pub IsUnsent : Kind → List ℕ → LineFault → Type 0
IsUnsent kind bytes (Message TooLong) = limit_of kind < length bytes
IsUnsent kind bytes Write = length bytes ≤ limit_of kind
IsUnsent kind bytes _ = ⊥

-- of these bytes a beginning was written, and nothing else
pub record IsBegun (old new : Option (List ℕ)) (bytes : List ℕ) : Type 0 where
  pub part : List ℕ
  pub more : List ℕ
  pub whole : bytes ≡ part ++ more
  pub written : Appends old new part

-- some of the bytes at the front have this fault
abbrev pub HasFault : List ℕ → MessageFault → Type 0
HasFault bytes fault = (front : List ℕ) × (more : List ℕ) × (bytes ≡ front ++ more) × (decoded front ≡ Err fault)

-- What a fault says of known bytes. The stream closes where none is left, and is cut where some are; where it gives no more all are still ahead; a fault of the bytes themselves is for good.
abbrev pub Fails : Option (List ℕ) → LineFault → Option (List ℕ) → Type 0
Fails None fault new = Unit {0}
Fails (Some bytes) Closed new = (bytes ≡ []) × (new ≡ Some [])
Fails (Some bytes) Read new = new ≡ Some bytes
Fails (Some bytes) Write new = ⊥
Fails (Some bytes) (Message OutOfMemory) new = (new ≡ Some bytes) ⊎ (new ≡ None)
Fails (Some bytes) (Message Truncated) new = (bytes ≢ []) × (new ≡ Some bytes)
Fails (Some bytes) (Message BadKind) new = HasFault bytes BadKind × (new ≡ None)
Fails (Some bytes) (Message TooLong) new = HasFault bytes TooLong × (new ≡ None)
Fails (Some bytes) (Message Failed) new = ⊥

-- A message is the one that the bytes begin with, and leaves what follows it.
abbrev pub Hears : Option (List ℕ) → Result Said LineFault → Option (List ℕ) → Type 0
Hears old (Err fault) new = Fails old fault new
Hears None (Ok m) new = Unit {0}
Hears (Some bytes) (Ok m) new = (left : List ℕ) × (new ≡ Some left) × Begins bytes m left
