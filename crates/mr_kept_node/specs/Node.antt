-- what a running node over a kept replica comes to
use Rattle.std.specs.Prelude.{◌≡◌, ◌≢◌, ◌++◌, [], ◌∷◌, ℕ, Bool, true, IsTrue, length, map, MatchOption, List, Some, Err, Result}
use Rattle.std.specs.List.{AllByRecursion}
use Rattle.mr_forms.specs.Known.{Form}
use Rattle.mr_feed.specs.declared.entry.Entry.{Entry as FeedEntry}
use Rattle.mr_journal.specs.Device.{LeavesOnly}
use Rattle.mr_journal.specs.Format.{Stands}
use Rattle.mr_journal.specs.declared.device.Device.{Ghosts as DeviceOf}
use Rattle.mr_entry.specs.Events.{events_of}
use Rattle.mr_entry.specs.Note.{NoteParts}
use Rattle.mr_entry.specs.Spelling.{entry_bytes}
use Rattle.mr_entry.specs.declared.entry.Entry.{Entry}
use Rattle.mr_lane.specs.declared.note.Sender.{Sender}
use Rattle.mr_link.specs.Link.{LinkView}
use Rattle.mr_replica.specs.Replay.{IsItsLog}
use Rattle.mr_replica.specs.State.{State}
use Rattle.mr_replica.specs.declared.event.Event.{Event}
use Rattle.mr_replica.specs.declared.event.Reply.{Reply}
use Rattle.mr_replica.specs.declared.refusal.Refusal.{Refusal}
use Rattle.mr_replica.specs.declared.refusal.Refusal.TheVariants.{OutOfMemory}
use Rattle.mr_kept.specs.Entries.{notes_of}
use Rattle.mr_kept.specs.Kept.{IsKept, head_of, nothing_waits, replica_of}
use Rattle.mr_kept.specs.Whole.{HasLog, IsOf}
use Rattle.mr_kept.specs.declared.fault.KeptFault.TheVariants.{Failed}
use Rattle.mr_kept.specs.declared.journaled.Journaled.{Journaled}
use Rattle.mr_threads.specs.Exchange.{Exchange, Replays}
use Rattle.mr_node.specs.Machine.{admitted_of}
use Rattle.mr_node.specs.Node.{NodeRan}
use Rattle.mr_node.specs.declared.node.NodeParts.{NodeParts}
use Rattle.mr_node.specs.declared.node.NodeEnd.{NodeEnd}
use Rattle.mr_kept_node.specs.Keeping.{device_under}
use Rattle.mr_kept_node.specs.Machine.{Takes, machine_of, told_of}
use Rattle.mr_kept_node.specs.declared.machine.KeptMachine.{KeptMachine}

-- a letter to the core, who sent it, and its answer
abbrev pub Passed : Type 0
Passed = Exchange Event (Result Reply Refusal)

module _ {K D V : Type 0} where
  -- the log of the replica in its machine
  abbrev pub log_of : KeptMachine K D V → List Event
  log_of m = (replica_of m.journaled).log

  -- the parts with the replica in its machine
  abbrev pub in_machine : {L M : Type 0} → NodeParts (Journaled K D V) L M → NodeParts (KeptMachine K D V) L M
  in_machine parts = record { replica = machine_of parts.replica; events = parts.events; first_link = parts.first_link; second_link = parts.second_link }

-- These entries are the feed of a replica with just this log.
pub record IsFeedOf {K : Type 0} (form : Form K) (log : List Event) (entries : List FeedEntry) : Type 0 where
  pub replica : State K
  pub is_its_log : IsItsLog form replica
  pub log_is : replica.log ≡ log
  pub feed_is : replica.feed ≡ entries

-- the file stands for entries that tell these events at least and those at most, and these notes
pub record TellsBetween (least most : List Event) (notes : List NoteParts) (file : List ℕ) : Type 0 where
  pub entries : List Entry
  pub stands : Stands (map entry_bytes entries) file
  pub more : List Event
  pub at_least : events_of entries ≡ least ++ more
  pub left : List Event
  pub at_most : most ≡ events_of entries ++ left
  pub notes_are : notes_of entries ≡ notes

-- the journal has these entries, and behind them such as tell these events and no note
pub record KeepsEvents {K D V : Type 0} (seen : D → List ℕ) (may_leave : D → List ℕ → Type 0) (entries : List Entry) (events : List Event) (j : Journaled K D V) : Type 0 where
  pub more : List Entry
  pub kept : IsKept seen may_leave (entries ++ more) j
  pub events_are : events_of more ≡ events
  pub no_notes : notes_of more ≡ []

-- One letter was admitted and not kept, and was answered by a refusal; so were all behind it.
pub record EndsUnkept (exchanges : List Passed) (unkept : List Event) : Type 0 where
  pub before : List Passed
  pub last : Passed
  pub behind : List Passed
  pub in_order : exchanges ≡ before ++ last ∷ behind
  pub unkept_is : unkept ≡ last.letter ∷ []
  pub refused : AllByRecursion (λ x. x.answer ≡ Err OutOfMemory) (last ∷ behind)

module _ {K D V : Type 0} (form : Form K) (device : DeviceOf D) where
  -- Between these exchanges and those the machine was in this state. What was told up to it is the feed of the log from the beginning with the events that were answered up to it; and a crash at any moment since then leaves a file that tells that log, at least, and at most the log at the end.
  pub record SafeSince (start : KeptMachine K D V) (before after : List Passed) (end : KeptMachine K D V) (notes : List NoteParts) : Type 0 where
    pub state : KeptMachine K D V
    pub reached : Replays (Takes form device) start before state
    pub left_for : Replays (Takes form device) state after end
    pub told : IsFeedOf form (log_of start ++ admitted_of before) (told_of state)
    pub leaves : LeavesOnly device.moment device.left_since (device_under state.journaled) (device_under end.journaled) (TellsBetween (log_of start ++ admitted_of before) (log_of end) notes)

  -- The journal had these entries at the beginning, and what it has since then.
  pub record KeepsLog (entries : List Entry) (start : KeptMachine K D V) (exchanges : List Passed) (end : KeptMachine K D V) : Type 0 where
    -- in the end those of the events that were answered are behind them, unless the device failed
    pub ended : end.fault ≢ Some Failed → KeepsEvents device.seen device.may_leave entries (admitted_of exchanges) end.journaled
    -- from each answer on a crash leaves what was answered by then
    pub since : (before after : List Passed) → exchanges ≡ before ++ after → SafeSince start before after end (notes_of entries)
    -- and at each moment a journal that opens again
    pub left : IsOf (head_of start.journaled) (replica_of start.journaled) → LeavesOnly device.moment device.left_since (device_under start.journaled) (device_under end.journaled) (λ c. HasLog form c (head_of start.journaled) (notes_of entries))

  -- The same as of a node over a replica, where each answer was given by a machine that had kept it before. The log has grown by the letters that were not refused, and where a commit was refused by the one of it; what was told is the feed without that one.
  pub record KeptNodeRan {L M : Type 0} (first_tells : L → LinkView) (second_tells : M → LinkView) (closes : Sender → ℕ → Bool) (has_let : Sender → ℕ → Type 0) (parts : NodeParts (Journaled K D V) L M) (end : NodeEnd (KeptMachine K D V)) (first : L) (second : M) : Type 0 where
    pub ran : NodeRan (Takes form device) told_of first_tells second_tells closes has_let (in_machine parts) end first second
    pub unkept : List Event
    pub log : log_of end.replica ≡ ((replica_of parts.replica).log ++ admitted_of ran.exchanges) ++ unkept
    pub feed : IsFeedOf form ((replica_of parts.replica).log ++ admitted_of ran.exchanges) (told_of end.replica)
    pub head : head_of end.replica.journaled ≡ head_of parts.replica
    pub all_kept : MatchOption end.replica.fault ((unkept ≡ []) × (nothing_waits end.replica.journaled ≡ true) × (end.replica.told ≡ length (replica_of end.replica.journaled).feed)) (λ _. EndsUnkept ran.exchanges unkept)
    pub keeps : IsTrue device.is_told → (entries : List Entry) → IsKept device.seen device.may_leave entries parts.replica → KeepsLog entries (machine_of parts.replica) ran.exchanges end.replica
