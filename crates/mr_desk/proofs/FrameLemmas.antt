-- bytes that are no frame at all are none of those that a call takes
use Rattle.std.proofs.Common.{◌≡◌, ℕ, Bool, true, false, nat_lt, List, length, Option, Some, Result, Ok, Err}
use Rattle.mr_desk.proofs.Names.{BadLength, BeginsFrame, BytesBehind, Event, Failed, Fault, Filter, Frame, Merge, Message, NoConflict, NotText, Open}
use Rattle.mr_desk.proofs.Names.{OtherDevice, OtherFrame, OutOfMemory, Peer, Reads, Refused, Replay, TooLarge, Unsettled, Version, Wire, WireFault, any_frame}
use Rattle.mr_desk.proofs.Names.{decoded, frame_fault, if◌then◌else◌, of_wire}

-- the fault of what was decoded of so many bytes
abbrev fault_at : (Frame → Option Fault) → ℕ → Result (Frame × ℕ) WireFault → Option Fault
fault_at only len r = elim r [
  | Ok found ↦ if nat_lt found.1 len then Some BytesBehind else only found.0
  | Err fault ↦ Some (of_wire fault)
]

at_test : (only : Frame → Option Fault) (b : Bool) (x : Frame) (f : Fault) → (if b then Some BytesBehind else any_frame x) ≡ Some f → (if b then Some BytesBehind else only x) ≡ Some f
at_test only true x f is = is
at_test only false x f is = cc

at_found : (only : Frame → Option Fault) (len : ℕ) (r : Result (Frame × ℕ) WireFault) (f : Fault) → fault_at any_frame len r ≡ Some f → fault_at only len r ≡ Some f
at_found only len (Ok found) f is = at_test only (nat_lt found.1 len) found.0 f is
at_found only len (Err fault) f is = is

narrower : (only : Frame → Option Fault) (bytes : List ℕ) (f : Fault) → frame_fault any_frame bytes ≡ Some f → frame_fault only bytes ≡ Some f
narrower only bytes f is = at_found only (length bytes) (decoded bytes) f is

pub reads-narrower : (X Y : Type 0) (only : Frame → Option Fault) (bytes : List ℕ) (IsX : X → Type 0) (IsY : Y → Type 0) (f : Fault) → Reads {X = X} (BeginsFrame bytes) (frame_fault any_frame bytes) IsX (Err f) → Reads {X = Y} (BeginsFrame bytes) (frame_fault only bytes) IsY (Err f)
reads-narrower X Y only bytes IsX IsY OutOfMemory h = h
reads-narrower X Y only bytes IsX IsY NotText h = narrower only bytes NotText h
reads-narrower X Y only bytes IsX IsY BytesBehind h = narrower only bytes BytesBehind h
reads-narrower X Y only bytes IsX IsY OtherFrame h = narrower only bytes OtherFrame h
reads-narrower X Y only bytes IsX IsY Unsettled h = narrower only bytes Unsettled h
reads-narrower X Y only bytes IsX IsY Failed h = narrower only bytes Failed h
reads-narrower X Y only bytes IsX IsY OtherDevice h = narrower only bytes OtherDevice h
reads-narrower X Y only bytes IsX IsY TooLarge h = narrower only bytes TooLarge h
reads-narrower X Y only bytes IsX IsY BadLength h = narrower only bytes BadLength h
reads-narrower X Y only bytes IsX IsY NoConflict h = narrower only bytes NoConflict h
reads-narrower X Y only bytes IsX IsY (Merge f) h = narrower only bytes (Merge f) h
reads-narrower X Y only bytes IsX IsY (Peer f) h = narrower only bytes (Peer f) h
reads-narrower X Y only bytes IsX IsY (Open f) h = narrower only bytes (Open f) h
reads-narrower X Y only bytes IsX IsY (Version f) h = narrower only bytes (Version f) h
reads-narrower X Y only bytes IsX IsY (Message f) h = narrower only bytes (Message f) h
reads-narrower X Y only bytes IsX IsY (Filter f) h = narrower only bytes (Filter f) h
reads-narrower X Y only bytes IsX IsY (Wire f) h = narrower only bytes (Wire f) h
reads-narrower X Y only bytes IsX IsY (Event f) h = narrower only bytes (Event f) h
reads-narrower X Y only bytes IsX IsY (Replay f) h = narrower only bytes (Replay f) h
reads-narrower X Y only bytes IsX IsY (Refused f) h = narrower only bytes (Refused f) h
