-- what a desk does with an event, and with a call
use Rattle.std.specs.Prelude.{◌≡◌, Option, Some, None, Result, Ok, Err}
use Rattle.mr_itemset.specs.Sparing.{sparing_form}
use Rattle.mr_replica.specs.Step.{Steps}
use Rattle.mr_replica.specs.declared.event.Event.{Event}
use Rattle.mr_replica.specs.declared.event.Reply.{Reply}
use Rattle.mr_replica.specs.declared.refusal.Refusal.{Refusal}
use Rattle.mr_desk.specs.Asked.{call_fault, IsEventOf, NeedsMemory}
use Rattle.mr_desk.specs.Desk.{DeskState}
use Rattle.mr_desk.specs.Merge.{merge_fault_in, IsMergeIn}
use Rattle.mr_desk.specs.Told.{told_by, frame_by}
use Rattle.mr_desk.specs.declared.call.Call.{Call}
use Rattle.mr_desk.specs.declared.call.VersionNumbers.{VersionNumbers}
use Rattle.mr_desk.specs.declared.fault.Fault.{Fault}
use Rattle.mr_desk.specs.declared.fault.Fault.TheVariants.{OutOfMemory, Refused}
use Rattle.mr_desk.specs.declared.reply.Told.{Told}

-- The replica takes its step. What the reply tells is told, and its frame lies on the desk; a refusal leaves the desk as it was.
abbrev pub Serves : DeskState → Event → Result Told Refusal → DeskState → Type 0
Serves s event (Ok told) new = (reply : Reply) × Steps sparing_form s.replica event (Ok reply) new.replica × (told ≡ told_by reply) × (new.frame ≡ frame_by reply)
Serves s event (Err refusal) new = Steps sparing_form s.replica event (Err refusal) new.replica × (new ≡ s)

-- An event that is meant is served, where nothing is wrong. Else, or where the memory runs out that it wants, the desk stays as it was.
module _ (Wants : Type 0) (wrong : Option Fault) (IsMeant : Event → Type 0) where
  abbrev pub ServesMeant : DeskState → Result Told Fault → DeskState → Type 0
  ServesMeant s (Ok told) new = (wrong ≡ None) × (event : Event) × IsMeant event × Serves s event (Ok told) new
  ServesMeant s (Err (Refused refusal)) new = (wrong ≡ None) × (event : Event) × IsMeant event × Serves s event (Err refusal) new
  ServesMeant s (Err OutOfMemory) new = Wants × (new ≡ s)
  ServesMeant s (Err fault) new = (wrong ≡ Some fault) × (new ≡ s)

-- a call is served where what is handed over is its event
abbrev pub Answers : DeskState → Call → Result Told Fault → DeskState → Type 0
Answers s call answer new = ServesMeant (NeedsMemory call) (call_fault call) (IsEventOf call) s answer new

-- the heads of an item are merged by the edit that makes one of them
abbrev pub Merges : DeskState → VersionNumbers → Result Told Fault → DeskState → Type 0
Merges s item answer new = ServesMeant (Unit {0}) (merge_fault_in s.replica item) (IsMergeIn s.replica item) s answer new
