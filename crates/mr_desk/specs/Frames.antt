-- the one frame that bytes are
use Rattle.std.specs.Prelude.{◌≡◌, ◌+◌, ℕ, nat_lt, List, length, if◌then◌else◌, Option, Some, None, Result, Ok, Err, IsOk}
use Rattle.std.specs.Int.{w32}
use Rattle.mr_wire.specs.Decoding.{decoded}
use Rattle.mr_wire.specs.Reading.{number_at}
use Rattle.mr_wire.specs.declared.decoding.TheConstants.{MAX_REST_BYTES}
use Rattle.mr_wire.specs.declared.fault.WireFault.{WireFault}
use Rattle.mr_wire.specs.declared.fault.WireFault.TheVariants.{Truncated, TooLong}
use Rattle.mr_wire.specs.declared.frame.Frame.{Frame}
use Rattle.mr_wire.specs.declared.frame.Frame.TheVariants as frame
use Rattle.mr_desk.specs.declared.frames.Claim.{Claim}
use Rattle.mr_desk.specs.declared.fault.Fault.{Fault}
use Rattle.mr_desk.specs.declared.fault.Fault.TheVariants.{BytesBehind, OtherFrame}
use Rattle.mr_desk.specs.Fault.{of_wire}

-- why a frame is none of those that a call takes
abbrev pub any_frame : Frame → Option Fault
any_frame f = None

abbrev pub only_ask : Frame → Option Fault
only_ask (frame.Ask ask) = None
only_ask f = Some OtherFrame

abbrev pub only_receipt : Frame → Option Fault
only_receipt (frame.Receipt receipt) = None
only_receipt f = Some OtherFrame

-- why bytes are not one frame of those that a call takes: first what is wrong with the frame, then bytes behind it, then another frame
abbrev pub frame_fault : (Frame → Option Fault) → List ℕ → Option Fault
frame_fault only bytes = elim (decoded bytes) [
  | Ok found ↦ if nat_lt found.1 (length bytes) then Some BytesBehind else only found.0
  | Err fault ↦ Some (of_wire fault)
]

-- the bytes are this frame, all of them
abbrev pub IsFrameIn : List ℕ → Frame → Type 0
IsFrameIn bytes f = decoded bytes ≡ Ok (f, length bytes)

-- memory is wanted only for a frame
abbrev pub BeginsFrame : List ℕ → Type 0
BeginsFrame bytes = IsOk (decoded bytes)

-- what a frame is, by number, and who it claims to come from
abbrev pub claim_by : Frame → Claim
claim_by (frame.Ask ask) = record { kind = 0; author = ask.target }
claim_by (frame.Record sent) = record { kind = 1; author = sent.header.source }
claim_by (frame.Receipt receipt) = record { kind = 2; author = receipt.giver }

-- the frame that the bytes are claims this
abbrev pub ClaimsIn : List ℕ → Claim → Type 0
ClaimsIn bytes claim = (f : Frame) × IsFrameIn bytes f × (claim ≡ claim_by f)

-- how many bytes the frame takes that these bytes begin, by its length
abbrev pub announced : List ℕ → Result ℕ WireFault
announced bytes = elim (number_at w32 bytes) [
  | Some found ↦ if nat_lt MAX_REST_BYTES found.0 then Err TooLong else Ok (found.0 + 4)
  | None ↦ Err Truncated
]
