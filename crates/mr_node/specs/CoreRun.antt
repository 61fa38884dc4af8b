-- what a replica's core comes to
use Rattle.std.specs.Prelude.{◌≡◌, ◌++◌, Result}
use Rattle.mr_forms.specs.Known.{Form}
use Rattle.mr_replica.specs.State.{State}
use Rattle.mr_replica.specs.Step.{Steps}
use Rattle.mr_replica.specs.declared.event.Event.{Event}
use Rattle.mr_replica.specs.declared.event.Reply.{Reply}
use Rattle.mr_replica.specs.declared.refusal.Refusal.{Refusal}
use Rattle.mr_threads.specs.Core.{Ran, RanShort}
use Rattle.mr_threads.specs.declared.core_parts.Core.{Core}
use Rattle.mr_node.specs.Machine.{feed_of, admitted_of}

-- The letters that the desk took were answered by steps of the replica, each in its turn; each sender was given its answers, both subscribers what came into the feed, and then all spouts were closed. The log has grown by the letters that were not refused.
pub record ReplicaRan {K R : Type 0} (form : Form K) (old new : Core (State K) Event (Result Reply Refusal) R) : Type 0 where
  pub ran : Ran (Steps form) feed_of old new
  pub log : new.machine.log ≡ old.machine.log ++ admitted_of ran.exchanges

-- The letters were answered up to the one whose entries could not all be copied for want of memory: all spouts were closed behind that, and each letter that was taken then is unanswered.
pub record ReplicaRanShort {K R : Type 0} (form : Form K) (old new : Core (State K) Event (Result Reply Refusal) R) : Type 0 where
  pub ran : RanShort (Steps form) feed_of old new
  pub log : new.machine.log ≡ old.machine.log ++ admitted_of ran.exchanges
