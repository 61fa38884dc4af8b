-- what a replica whose host writes does with an event, with a call, and at a commit
use Rattle.std.specs.Prelude.{◌≡◌, true, false, Option, Some, None, Result, Ok, Err}
use Rattle.mr_itemset.specs.Normal.{Normal}
use Rattle.mr_itemset.specs.Sparing.{sparing_form}
use Rattle.mr_kept.specs.Answered.{Answered}
use Rattle.mr_kept.specs.Kept.{Asks as KeptAsks, SameJournal, journal_of, leaving, replica_of}
use Rattle.mr_kept.specs.declared.fault.KeptFault.{KeptFault}
use Rattle.mr_kept.specs.declared.fault.KeptFault.TheVariants as kept
use Rattle.mr_hosted.specs.Commit.{HostCommits}
use Rattle.mr_hosted.specs.Hosted.{SameHost, journaled_of, may_show}
use Rattle.mr_hosted.specs.declared.hosted.Hosted.{Hosted}
use Rattle.mr_replica.specs.State.{State}
use Rattle.mr_replica.specs.declared.event.Event.{Event}
use Rattle.mr_replica.specs.declared.event.Reply.{Reply}
use Rattle.mr_desk.specs.Asked.{call_fault, IsEventOf}
use Rattle.mr_desk.specs.Merge.{merge_fault_in, IsMergeIn}
use Rattle.mr_desk.specs.Told.{told_by}
use Rattle.mr_desk.specs.declared.call.Call.{Call}
use Rattle.mr_desk.specs.declared.call.VersionNumbers.{VersionNumbers}
use Rattle.mr_desk.specs.declared.fault.Fault.{Fault}
use Rattle.mr_desk.specs.declared.fault.Fault.TheVariants as fault
use Rattle.mr_desk.specs.declared.reply.Told.{Told}
use Rattle.mr_desk.specs.declared.reply.Told.TheVariants as told

-- what is told of a reply that is given at once, and that it is done where none is
abbrev pub told_of : Option Reply → Told
told_of None = told.Done
told_of (Some reply) = told_by reply

-- nothing is wrong, and of the event that is meant this holds
abbrev pub Asks : Option Fault → (Event → Type 0) → (Event → Type 0) → Type 0
Asks wrong IsMeant Holds = (wrong ≡ None) × (event : Event) × IsMeant event × Holds event

module _ {V : Type 0} where
  -- the replica
  abbrev pub inside : Hosted Normal V → State Normal
  inside h = replica_of (journaled_of h)

  -- all is as it was: the replica, what is held back and handed out, the file, and what waits and is left to be done
  pub record Stays (old new : Hosted Normal V) : Type 0 where
    pub replica : inside new ≡ inside old
    pub held_back : leaving (journaled_of new) ≡ leaving (journaled_of old)
    pub journal : SameJournal (journaled_of old) (journaled_of new)
    pub host : SameHost old new

  -- The replica takes its step, and its reply is held back or told. The file, and what is left to be done, is as it was.
  pub record Goes (old : Hosted Normal V) (event : Event) (t : Told) (new : Hosted Normal V) : Type 0 where
    pub given : Option Reply
    pub asked : KeptAsks sparing_form (journaled_of old) event (Ok given) (journaled_of new)
    pub told_is : t ≡ told_of given
    pub journal : SameJournal (journaled_of old) (journaled_of new)
    pub host : SameHost old new

  -- the replica refuses the event, or the file can't keep it
  abbrev pub Refuses : Hosted Normal V → Event → KeptFault → Type 0
  Refuses h event fault = Answered sparing_form (journal_of (journaled_of h)) (inside h) event (Err fault) (inside h)

  -- An event that is meant is taken, where nothing is wrong. Else, or where it isn't taken, all stays.
  module _ (wrong : Option Fault) (IsMeant : Event → Type 0) where
    abbrev pub TakesMeant : Hosted Normal V → Result Told Fault → Hosted Normal V → Type 0
    TakesMeant old (Ok t) new = Asks wrong IsMeant (λ event. Goes old event t new)
    TakesMeant old (Err (fault.Refused e)) new = Asks wrong IsMeant (λ event. Refuses old event (kept.Refused e)) × Stays old new
    TakesMeant old (Err fault.Failed) new = Asks wrong IsMeant (λ event. Refuses old event kept.Failed) × Stays old new
    TakesMeant old (Err fault.TooLarge) new = Asks wrong IsMeant (λ event. Refuses old event kept.TooLarge) × Stays old new
    TakesMeant old (Err fault.OutOfMemory) new = Stays old new
    TakesMeant old (Err f) new = (wrong ≡ Some f) × Stays old new

  -- a call is taken where what is handed over is its event
  abbrev pub KeptAnswers : Hosted Normal V → Call → Result Told Fault → Hosted Normal V → Type 0
  KeptAnswers old call answer new = TakesMeant (call_fault call) (IsEventOf call) old answer new

  -- The heads of an item are merged by the edit that makes one of them, where nothing waits and the host has no act to do.
  abbrev pub KeptMerges : Hosted Normal V → VersionNumbers → Result Told Fault → Hosted Normal V → Type 0
  KeptMerges old item (Err fault.Unsettled) new = (may_show old ≡ false) × Stays old new
  KeptMerges old item answer new = (may_show old ≡ true) × TakesMeant (merge_fault_in (inside old) item) (IsMergeIn (inside old) item) old answer new

  -- All that waits, events and notes, is to be kept, or isn't.
  abbrev pub KeptCommits : Hosted Normal V → Result (Unit {0}) Fault → Hosted Normal V → Type 0
  KeptCommits old (Ok done) new = HostCommits sparing_form old (Ok done) new
  KeptCommits old (Err fault.Unsettled) new = HostCommits sparing_form old (Err kept.Unsettled) new
  KeptCommits old (Err fault.Failed) new = HostCommits sparing_form old (Err kept.Failed) new
  KeptCommits old (Err fault.TooLarge) new = HostCommits sparing_form old (Err kept.TooLarge) new
  KeptCommits old (Err fault.OutOfMemory) new = HostCommits sparing_form old (Err kept.OutOfMemory) new
  KeptCommits old (Err f) new = ⊥
