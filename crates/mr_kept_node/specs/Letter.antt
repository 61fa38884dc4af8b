-- a letter to a kept replica: what it is asked, and what comes of that before a commit
use Rattle.std.specs.Prelude.{◌≡◌, ◌++◌, [], ◌∷◌, MatchBool, Ok, Err}
use Rattle.mr_forms.specs.Known.{Form}
use Rattle.mr_replica.specs.Step.{Steps}
use Rattle.mr_replica.specs.declared.event.Event.{Event}
use Rattle.mr_replica.specs.declared.event.Reply.{Reply}
use Rattle.mr_replica.specs.declared.refusal.Refusal.{Refusal}
use Rattle.mr_replica.specs.declared.refusal.Refusal.TheVariants as refusal
use Rattle.mr_kept.specs.Answered.{Answered, MayKeep, is_held_back}
use Rattle.mr_kept.specs.Kept.{SameJournal, journal_of, leaving, replica_of}
use Rattle.mr_kept.specs.declared.fault.KeptFault.{KeptFault}
use Rattle.mr_kept.specs.declared.fault.KeptFault.TheVariants.{OutOfMemory, Refused, Failed, TooLarge, Unsettled}
use Rattle.mr_kept.specs.declared.journaled.Journaled.{Journaled}

-- The refusal that a fault is answered by: the replica's own or, where the machine is at fault and not the letter, that of memory.
abbrev pub refusal_of : KeptFault → Refusal
refusal_of OutOfMemory = refusal.OutOfMemory
refusal_of (Refused e) = e
refusal_of Failed = refusal.OutOfMemory
refusal_of TooLarge = refusal.OutOfMemory
refusal_of Unsettled = refusal.OutOfMemory

module _ {K D V : Type 0} (form : Form K) where
  -- The letter was admitted, as one that can be kept, and waits for the commit; and so does its reply, where that may leave.
  pub record Asked (old : Journaled K D V) (letter : Event) (reply : Reply) (new : Journaled K D V) : Type 0 where
    pub may_keep : MayKeep (journal_of old) letter
    pub steps : Steps form (replica_of old) letter (Ok reply) (replica_of new)
    pub journal : SameJournal old new
    pub held : MatchBool (is_held_back letter) (leaving new ≡ leaving old ++ reply ∷ []) (leaving new ≡ leaving old)

  -- It wasn't, for this fault, and nothing has changed.
  pub record Turned (old : Journaled K D V) (letter : Event) (fault : KeptFault) (new : Journaled K D V) : Type 0 where
    pub answered : Answered form (journal_of old) (replica_of old) letter (Err fault) (replica_of new)
    pub journal : SameJournal old new
    pub leaving_is : leaving new ≡ leaving old
