-- the event that a call is
use Rattle.std.specs.Prelude.{◌≡◌, List, map, Option, None}
use Rattle.std.specs.Option.{option_map}
use Rattle.mr_wire.specs.declared.frame.Frame.TheVariants as frame
use Rattle.mr_replica.specs.Refusal.{◌orelse◌}
use Rattle.mr_replica.specs.declared.event.Event.{Event}
use Rattle.mr_replica.specs.declared.event.Event.TheVariants as event
use Rattle.mr_desk.specs.Version.{named_by, version_fault, first_version_fault}
use Rattle.mr_desk.specs.Draft.{draft_fault, IsMessageOf}
use Rattle.mr_desk.specs.Frames.{any_frame, only_ask, only_receipt, frame_fault, IsFrameIn, BeginsFrame}
use Rattle.mr_desk.specs.declared.call.VersionNumbers.{VersionNumbers}
use Rattle.mr_desk.specs.declared.call.Draft.{Draft}
use Rattle.mr_desk.specs.declared.call.Call.{Call}
use Rattle.mr_desk.specs.declared.call.Call.TheVariants.{Create, Edit, Retire, Pull, Receive, CutIn, Answer, Next, CutOut, Vouch, Release}
use Rattle.mr_desk.specs.declared.fault.Fault.{Fault}
use Rattle.mr_desk.specs.declared.fault.Fault.TheVariants.{Version}

-- why what is handed over is no edit: first the message, then the versions
abbrev pub edit_fault : List VersionNumbers → Draft → Option Fault
edit_fault bases draft = draft_fault draft orelse option_map Version (first_version_fault bases)

-- the edit of these versions, by this draft
abbrev pub IsEditOf : List VersionNumbers → Draft → Event → Type 0
IsEditOf bases draft (event.Edit versions message) = (versions ≡ map named_by bases) × IsMessageOf draft message
IsEditOf bases draft e = ⊥

-- why what is handed over is no event
abbrev pub call_fault : Call → Option Fault
call_fault (Create draft) = draft_fault draft
call_fault (Edit bases draft) = edit_fault bases.now draft
call_fault (Receive bytes) = frame_fault any_frame bytes.now
call_fault (Answer bytes) = frame_fault only_ask bytes.now
call_fault (Vouch numbers) = option_map Version (version_fault numbers)
call_fault (Release bytes) = frame_fault only_receipt bytes.now
call_fault call = None

-- the event that is asked for
abbrev pub IsEventOf : Call → Event → Type 0
IsEventOf (Create draft) (event.Create message) = IsMessageOf draft message
IsEventOf (Create draft) e = ⊥
IsEventOf (Edit bases draft) e = IsEditOf bases.now draft e
IsEventOf Retire e = e ≡ event.Retire
IsEventOf Pull e = e ≡ event.Pull
IsEventOf (Receive bytes) (event.Receive f) = IsFrameIn bytes.now f
IsEventOf (Receive bytes) e = ⊥
IsEventOf (CutIn session) e = e ≡ event.CutIn session
IsEventOf (Answer bytes) (event.Answer ask) = IsFrameIn bytes.now (frame.Ask ask)
IsEventOf (Answer bytes) e = ⊥
IsEventOf (Next stream) e = e ≡ event.Next stream
IsEventOf (CutOut stream) e = e ≡ event.CutOut stream
IsEventOf (Vouch numbers) e = e ≡ event.Vouch (named_by numbers)
IsEventOf (Release bytes) (event.Release receipt) = IsFrameIn bytes.now (frame.Receipt receipt)
IsEventOf (Release bytes) e = ⊥

-- where reading what is handed over may want memory
abbrev pub NeedsMemory : Call → Type 0
NeedsMemory (Create draft) = Unit {0}
NeedsMemory (Edit bases draft) = Unit {0}
NeedsMemory (Receive bytes) = BeginsFrame bytes.now
NeedsMemory (Answer bytes) = BeginsFrame bytes.now
NeedsMemory (Release bytes) = BeginsFrame bytes.now
NeedsMemory call = ⊥
