-- Two replicas that are one.
use Rattle.std.specs.Prelude.{◌≡◌, ◌≢◌, Result, Err}
use Rattle.mr_forms.specs.Known.{Form}
use Rattle.mr_replica.specs.State.{State}
use Rattle.mr_replica.specs.Alike.{AreAlike}
use Rattle.mr_replica.specs.Step.{Steps}
use Rattle.mr_replica.specs.declared.event.Event.{Event}
use Rattle.mr_replica.specs.declared.event.Reply.{Reply}
use Rattle.mr_replica.specs.declared.refusal.Refusal.{Refusal}
use Rattle.mr_replica.specs.declared.refusal.Refusal.TheVariants.{OutOfMemory}

module _ {K : Type 0} (form : Form K) (s t : State K) where
  -- where they are alike, they are one
  abbrev pub AreOneIfAlike : Type 0
  AreOneIfAlike = AreAlike form s t → s ≡ t

  -- one log, id, filter and limit have one replica
  abbrev pub AreOneByLog : Type 0
  AreOneByLog = s.id ≡ t.id → s.filter ≡ t.filter → s.event_limit ≡ t.event_limit → s.log ≡ t.log → s ≡ t

  -- Where one event brought them here from replicas that are alike, and memory was not wanting, they are one, and their answers too.
  abbrev pub AreOneByEvent : Type 0
  AreOneByEvent = (before others : State K) (event : Event) (answer other : Result Reply Refusal) → AreAlike form before others
      → answer ≢ Err OutOfMemory → other ≢ Err OutOfMemory → Steps form before event answer s → Steps form others event other t → (other ≡ answer) × (s ≡ t)
