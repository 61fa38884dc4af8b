-- What a member of a world answers to what it is asked, and what becomes of it.
use Rattle.std.specs.Prelude.{◌≡◌, ◌≢◌, Err}
use Rattle.mr_forms.specs.Known.{Form}
use Rattle.mr_model.specs.declared.event.Subscriber.{Subscriber}
use Rattle.mr_replica.specs.State.{State}
use Rattle.mr_replica.specs.Step.{Steps}
use Rattle.mr_replica.specs.declared.event.Event.{Event}
use Rattle.mr_replica.specs.declared.refusal.Refusal.TheVariants.{OutOfMemory}
use Rattle.mr_world.specs.Kept.{MemberView, port_of, with_port}
use Rattle.mr_world.specs.Ports.{Port, Offers, Takes, Closes}
use Rattle.mr_world.specs.declared.answer.Answer.{Answer}
use Rattle.mr_world.specs.declared.answer.Answer.TheVariants as answer
use Rattle.mr_world.specs.declared.task.Task.{Task}
use Rattle.mr_world.specs.declared.task.Task.TheVariants.{Step, Truncated, Offer, Take, Close}

-- the port to a subscriber takes part, and nothing else changes
abbrev pub ByPort : {K : Type 0} → (Port → Answer → Port → Type 0) → Subscriber → MemberView K → Answer → MemberView K → Type 0
ByPort May u m given m' = May (port_of m u) given (port_of m' u) × (m' ≡ with_port m u (port_of m' u))

module _ {K : Type 0} (form : Form K) where
  -- a replica answers its event. That there is no memory is no answer.
  abbrev pub StepsTo : Event → State K → Answer → State K → Type 0
  StepsTo event s (answer.Stepped given) s' = (given ≢ Err OutOfMemory) × Steps form s event given s'
  StepsTo event s given s' = ⊥

  -- a member does a task: a part of a frame changes nothing
  abbrev pub Does : Task → MemberView K → Answer → MemberView K → Type 0
  Does (Step event) m given m' = StepsTo event m.replica given m'.replica × (m' ≡ record m { replica = m'.replica })
  Does Truncated m given m' = (given ≡ answer.Truncated) × (m' ≡ m)
  Does (Offer u) m given m' = ByPort (Offers m.replica.feed) u m given m'
  Does (Take u) m given m' = ByPort Takes u m given m'
  Does (Close u) m given m' = ByPort Closes u m given m'
