-- What a world makes of a replica's step.
use Rattle.std.proofs.Common.{◌≡◌, Result, Ok, Err, refl, sym, ap, subst, ◌∙◌, arith}
use Rattle.mr_world.proofs.Names.Replica.{Event, Refusal, Reply, State, Steps, step_refused}
use Rattle.mr_world.proofs.Names.Mails.{Form}
use Rattle.mr_world.proofs.Names.World.{Answer, Does, Fulfils, Gains, Given, IsGivenBy, KeepsFrames, MemberView, OutOfMemory, PoolList, Stepped}
use Rattle.mr_world.proofs.Names.World.{StepsTo, WorldFault}
use Rattle.mr_replica.specs.declared.refusal.Refusal.TheVariants as refusal
use Rattle.mr_world.specs.inner.Stepped.{IsRefusedBy}
use Rattle.mr_world.specs.declared.task.Task.TheVariants as task

no_change : (p : PoolList) → KeepsFrames p p
no_change p = record { asks = refl; records = refl; receipts = refl }

module _ {K : Type 0} (form : Form K) where
  -- a refusal, as the world has it
  pub refused_so : (s s' : State K) (p : PoolList) (event : Event) (x : Refusal) (result : Result Answer WorldFault) → Steps form s event (Err x) s' → IsRefusedBy x result → Fulfils (StepsTo form event) s p result s' p
  refused_so s s' p event x result h is = grind (arith, no_change, step_refused)

  -- a reply, as the world has it
  pub replied_so : (s s' : State K) (p p' : PoolList) (event : Event) (told : Reply) (g : Given) → Steps form s event (Ok told) s' → IsGivenBy told g → Gains p g p' → Fulfils (StepsTo form event) s p (Ok (Stepped (Ok told))) s' p'
  replied_so s s' p p' event told g h is gain = grind arith

  -- a step of a member's replica is one of the member
  pub fulfils_step : (m : MemberView K) (s' : State K) (p p' : PoolList) (event : Event) (result : Result Answer WorldFault) → Fulfils (StepsTo form event) m.replica p result s' p' → Fulfils (Does form (task.Step event)) m p result (record m { replica = s' }) p'
  fulfils_step m s' p p' event result h = grind arith
