-- what stands at the front of some bytes, or the first thing that is wrong with them
use Rattle.std.specs.Prelude.{◌≡◌, ◌+◌, ℕ, ◌==◌, ◌||◌, if◌then◌else◌, List, [], ◌∷◌, length, Option, Some, Result, Ok, Err, IsOk}
use Rattle.mr_wire.specs.declared.fault.WireFault.{WireFault}
use Rattle.mr_wire.specs.declared.fault.WireFault.TheVariants.{OutOfMemory, Truncated, TooLong, BadFormat, BadKind, BadBody}
use Rattle.mr_wire.specs.declared.frame.Frame.{Frame}
use Rattle.mr_wire.specs.declared.kind.Kind.{Kind}
use Rattle.mr_wire.specs.Kinds.{kind_of_byte}
use Rattle.mr_wire.specs.Reading.{◌>>=◌}
use Rattle.mr_wire.specs.FrameParts.{frame_at}
use Rattle.mr_wire.specs.Prefixed.{RestFaults, rest_of, whole_at}
pub use Rattle.mr_wire.specs.Prefixed.{or_fault, and_then}

-- the faults of what stands behind the length
abbrev pub rest_faults : RestFaults WireFault
rest_faults = record { truncated = Truncated; too_long = TooLong; bad_body = BadBody }

-- the kind, and what stands behind it
abbrev pub kind_and_parts : List ℕ → Result (Kind × List ℕ) WireFault
kind_and_parts [] = Err BadBody
kind_and_parts (format ∷ []) = Err BadBody
kind_and_parts (format ∷ byte ∷ parts) =
    if format == 1 || format == 2 then or_fault BadKind (kind_of_byte format byte >>= λ kind. Some (kind, parts)) else Err BadFormat

-- the frame of this kind that the bytes are, all of them
abbrev pub whole_frame : Kind → List ℕ → Option Frame
whole_frame kind parts = whole_at (frame_at kind) parts

-- the first frame, and how many bytes it takes
abbrev pub decoded : List ℕ → Result (Frame × ℕ) WireFault
decoded bytes =
    and_then (rest_of rest_faults bytes) (λ rest. and_then (kind_and_parts rest) (λ head. or_fault BadBody (whole_frame head.0 head.1 >>= λ f. Some (f, length rest + 4))))

-- What is answered is what was decoded. Memory is wanting only where there is a frame.
abbrev pub Answers : {X : Type 0} → Result X WireFault → Result X WireFault → Type 0
Answers read (Ok x) = read ≡ Ok x
Answers read (Err OutOfMemory) = IsOk read
Answers read (Err Truncated) = read ≡ Err Truncated
Answers read (Err TooLong) = read ≡ Err TooLong
Answers read (Err BadFormat) = read ≡ Err BadFormat
Answers read (Err BadKind) = read ≡ Err BadKind
Answers read (Err BadBody) = read ≡ Err BadBody
