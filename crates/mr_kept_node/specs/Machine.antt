-- a kept replica as a machine of letters and answers, each of which is kept before it is given
use Rattle.std.specs.Prelude.{◌≡◌, ◌≢◌, ◌⊎◌, [], ℕ, Bool, true, IsTrue, length, take, List, Option, Some, None, Result, Ok, Err}
use Rattle.mr_forms.specs.Known.{Form}
use Rattle.mr_feed.specs.declared.entry.Entry.{Entry}
use Rattle.mr_journal.specs.declared.device.Device.{Ghosts as DeviceOf}
use Rattle.mr_replica.specs.Step.{Steps}
use Rattle.mr_replica.specs.declared.event.Event.{Event}
use Rattle.mr_replica.specs.declared.event.Reply.{Reply}
use Rattle.mr_replica.specs.declared.refusal.Refusal.{Refusal}
use Rattle.mr_replica.specs.declared.refusal.Refusal.TheVariants.{OutOfMemory}
use Rattle.mr_kept.specs.Answered.{MayKeep}
use Rattle.mr_kept.specs.Commit.{IsUncommitted}
use Rattle.mr_kept.specs.Kept.{StaysBack, head_of, journal_of, leaving, nothing_waits, replica_of}
use Rattle.mr_kept.specs.declared.fault.KeptFault.{KeptFault}
use Rattle.mr_kept.specs.declared.fault.KeptFault.TheVariants.{Failed}
use Rattle.mr_kept.specs.declared.journaled.Journaled.{Journaled}
use Rattle.mr_kept_node.specs.Keeping.{Commits, Keeps, device_under}
use Rattle.mr_kept_node.specs.Letter.{Asked, Turned, refusal_of}
use Rattle.mr_kept_node.specs.declared.machine.KeptMachine.{KeptMachine}

module _ {K D V : Type 0} where
  -- the machine of a kept replica, before its first letter
  abbrev pub machine_of : Journaled K D V → KeptMachine K D V
  machine_of j = record { journaled = j; fault = None; told = length (replica_of j).feed }

  -- the feed as far as it may be told
  abbrev pub told_of : KeptMachine K D V → List Entry
  told_of m = take m.told (replica_of m.journaled).feed

module _ {K D V : Type 0} (form : Form K) (device : DeviceOf D) where
  -- The letter was admitted, and is kept.
  pub record Kept (old : KeptMachine K D V) (letter : Event) (reply : Reply) (new : KeptMachine K D V) : Type 0 where
    pub may_keep : MayKeep (journal_of old.journaled) letter
    pub steps : Steps form (replica_of old.journaled) letter (Ok reply) (replica_of new.journaled)
    pub head : head_of new.journaled ≡ head_of old.journaled
    pub none_waits : nothing_waits new.journaled ≡ true
    pub none_back : leaving new.journaled ≡ []
    pub goes_on : new.fault ≡ None
    pub told : new.told ≡ length (replica_of new.journaled).feed
    pub keeps : Keeps form device old.journaled letter new.journaled
    pub commits : Commits form device old.journaled letter new.journaled

  -- It was not admitted, and nothing has changed.
  pub record Declined (old : KeptMachine K D V) (letter : Event) (refusal : Refusal) (new : KeptMachine K D V) : Type 0 where
    pub fault : KeptFault
    pub refusal_is : refusal ≡ refusal_of fault
    pub turned : Turned form old.journaled letter fault new.journaled
    pub goes_on : new.fault ≡ None
    pub told : new.told ≡ old.told

  -- It was admitted, but the commit was refused: neither its reply is given nor what came into the feed told, and the machine has stopped. Unless the device failed, all waits as it did before the commit.
  pub record Stopped (old : KeptMachine K D V) (letter : Event) (new : KeptMachine K D V) : Type 0 where
    pub reply : Reply
    pub asked_of : Journaled K D V
    pub asked : Asked form old.journaled letter reply asked_of
    pub fault : KeptFault
    pub stops : new.fault ≡ Some fault
    pub told : new.told ≡ old.told
    pub why : IsUncommitted asked_of fault
    pub replica : replica_of new.journaled ≡ replica_of asked_of
    pub head : head_of new.journaled ≡ head_of asked_of
    pub stays : StaysBack asked_of new.journaled
    pub unchanged : fault ≢ Failed → new.journaled ≡ asked_of
    pub cause : IsTrue device.is_told → fault ≡ Failed → IsTrue (device.has_failed (device_under new.journaled))
    pub commits : Commits form device old.journaled letter new.journaled

  -- a machine that goes on takes the letter
  abbrev pub Goes : KeptMachine K D V → Event → Result Reply Refusal → KeptMachine K D V → Type 0
  Goes old letter (Ok reply) new = Kept old letter reply new
  Goes old letter (Err refusal) new = Declined old letter refusal new ⊎ ((refusal ≡ OutOfMemory) × Stopped old letter new)

  -- one that has stopped, by a fault, takes no letter
  abbrev pub TakesBy : Option KeptFault → KeptMachine K D V → Event → Result Reply Refusal → KeptMachine K D V → Type 0
  TakesBy None old letter answer new = Goes old letter answer new
  TakesBy (Some fault) old letter answer new = (answer ≡ Err OutOfMemory) × (new ≡ old)

  abbrev pub Takes : KeptMachine K D V → Event → Result Reply Refusal → KeptMachine K D V → Type 0
  Takes old letter answer new = TakesBy old.fault old letter answer new
