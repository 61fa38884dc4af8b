-- the first frame of a rest
use Rattle.std.specs.Prelude.{◌≡◌, ℕ, List, Option, Some, None, Result, Ok, Err, IsOk}
use Rattle.mr_wire.specs.declared.fault.WireFault.{WireFault}
use Rattle.mr_wire.specs.declared.fault.WireFault.TheVariants.{OutOfMemory, Truncated, TooLong, BadFormat, BadKind, BadBody}
use Rattle.mr_wire.specs.declared.frame.Frame.{Frame}
use Rattle.mr_wire.specs.Decoding.{decoded}
use Rattle.mr_frames.specs.Stream.{Begins}

-- what comes of taking the first frame: it goes, and what follows it is left; or nothing changes, since it lacks its end, or the bytes spell no frame, or there is no memory
abbrev pub Takes : List ℕ → Result (Option Frame) WireFault → List ℕ → Type 0
Takes rest (Ok (Some f)) left = Begins rest f left
Takes rest (Ok None) left = (decoded rest ≡ Err Truncated) × (left ≡ rest)
Takes rest (Err OutOfMemory) left = IsOk (decoded rest) × (left ≡ rest)
Takes rest (Err Truncated) left = ⊥
Takes rest (Err TooLong) left = (decoded rest ≡ Err TooLong) × (left ≡ rest)
Takes rest (Err BadFormat) left = (decoded rest ≡ Err BadFormat) × (left ≡ rest)
Takes rest (Err BadKind) left = (decoded rest ≡ Err BadKind) × (left ≡ rest)
Takes rest (Err BadBody) left = (decoded rest ≡ Err BadBody) × (left ≡ rest)
