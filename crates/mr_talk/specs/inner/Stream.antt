-- the first message of a rest
use Rattle.std.specs.Prelude.{◌≡◌, ℕ, List, Option, Some, None, Result, Ok, Err, IsOk}
use Rattle.mr_talk.specs.declared.fault.MessageFault.{MessageFault}
use Rattle.mr_talk.specs.declared.fault.MessageFault.TheVariants.{OutOfMemory, Truncated, BadKind, TooLong, Failed}
use Rattle.mr_talk.specs.Said.{Said}
use Rattle.mr_talk.specs.Messages.{decoded}
use Rattle.mr_talk.specs.Stream.{Begins}

-- what comes of taking the first message: it goes, and what follows it is left; or nothing changes, since it lacks its end, or the bytes spell no message, or there is no memory
abbrev pub Takes : List ℕ → Result (Option Said) MessageFault → List ℕ → Type 0
Takes rest (Ok (Some m)) left = Begins rest m left
Takes rest (Ok None) left = (decoded rest ≡ Err Truncated) × (left ≡ rest)
Takes rest (Err OutOfMemory) left = IsOk (decoded rest) × (left ≡ rest)
Takes rest (Err Truncated) left = ⊥
Takes rest (Err BadKind) left = (decoded rest ≡ Err BadKind) × (left ≡ rest)
Takes rest (Err TooLong) left = (decoded rest ≡ Err TooLong) × (left ≡ rest)
Takes rest (Err Failed) left = ⊥
