-- A move of a world is a step of one replica, or leaves all replicas and records: what holds of them and of what steps make of them stays so.
use Rattle.std.proofs.Common.{◌≡◌, ◌≢◌, refl, sym, ap, subst, ◌∙◌, ℕ, ◌⊎◌, inl, inr, Some, arith}
use Rattle.mr_world.proofs.Names.Lists.{Err, Ok, Result}
use Rattle.mr_world.proofs.Names.Wire.{Body, Sent}
use Rattle.mr_world.proofs.Names.Replica.{Event as ReplicaEvent, Gave, Refusal, Reply, State, Steps, step_refused}
use Rattle.mr_world.proofs.Names.Model.{Event, In}
use Rattle.mr_world.proofs.Names.Laws.{at_elim, at_same}
use Rattle.mr_world.proofs.Names.Mails.{Form, Mail}
use Rattle.mr_world.proofs.Names.World.{Answer, Task, World}
use Rattle.mr_world.specs.declared.answer.Answer.TheVariants as answer
use Rattle.mr_world.specs.declared.task.Task.TheVariants as task
use Rattle.mr_world.proofs.Moving.ByParts.{DoesAt, MovesAt, StepsAt, with_given, with_replica}
use Rattle.mr_world.proofs.Moving.Asking.{IsOfPool, of_pool}

module _ {K : Type 0} (form : Form K) (w : World K) where
  -- whose step the move is
  pub data Mover (given : Answer) (w' : World K) : Type 0 where
    A_replica : (r : ℕ) → (there : ReplicaEvent) → IsOfPool w there → StepsAt form w r there given w' → Mover given w'
    No_replica : w'.replicas ≡ w.replicas → w'.records ≡ w.records → ((x : Result Reply Refusal) → given ≢ answer.Stepped x) → Mover given w'

  -- a world that is another but for its ports
  aside : (given : Answer) (w' v : World K) → w' ≡ v → v.replicas ≡ w.replicas → v.records ≡ w.records → ((x : Result Reply Refusal) → given ≢ answer.Stepped x) → Mover given w'
  aside given w' v is replicas records other = No_replica (ap (λ (z : World K). z.replicas) is ∙ replicas) (ap (λ (z : World K). z.records) is ∙ records) other

  by_task : (r : ℕ) (t : Task) (given : Answer) (w' : World K) → ((there : ReplicaEvent) → t ≡ task.Step there → IsOfPool w there) → DoesAt form w r t given w' → Mover given w'
  by_task r (task.Step there) given w' pool done = A_replica r there (pool there refl) done
  by_task r task.Truncated (answer.Stepped x) w' pool done = absurd (cc)
  by_task r task.Truncated given w' pool done = aside given w' w done.1 refl refl (λ x e. absurd (cc))
  by_task r (task.Offer u) (answer.Stepped x) w' pool done = absurd done.1
  by_task r (task.Offer u) given w' pool done = aside given w' _ done.2 refl refl (λ x e. absurd (cc))
  by_task r (task.Take u) (answer.Stepped x) w' pool done = absurd done.1
  by_task r (task.Take u) given w' pool done = aside given w' _ done.2 refl refl (λ x e. absurd (cc))
  by_task r (task.Close u) (answer.Stepped x) w' pool done = absurd done.1
  by_task r (task.Close u) given w' pool done = aside given w' _ done.2 refl refl (λ x e. absurd (cc))

  pub mover : (e : Event Mail) (given : Answer) (w' : World K) → MovesAt form w e given w' → Mover given w'
  mover e given w' move = by_task e.replica move.0 given w' (λ there is. of_pool w e.act there (move.1 ∙ ap (λ (t : Task). Some t) is)) move.2

  -- ---- what each step keeps

  -- only a record that was given is new
  given_record : (v : World K) (told : Reply) (sent : Sent) → In sent (with_given v (Ok told)).records → (told ≡ Gave sent) ⊎ In sent v.records
  given_record v (Gave x) sent i = elim i [ inl e ↦ inl (ap Gave e) | inr j ↦ inr j ]
  given_record v told sent i = inr i

  -- P holds of each replica, and B of each record
  pub record Hold (P : ℕ → State K → Type 0) (B : Body → Type 0) (v : World K) : Type 0 where
    pub replicas : (r : ℕ) → P r (v.replicas r)
    pub records : (sent : Sent) → In sent v.records → B sent.body

  pub keeps : (P : ℕ → State K → Type 0) (B : Body → Type 0) (given : Answer) (w' : World K) → Hold P B w →
      ((r : ℕ) (there : ReplicaEvent) (told : Reply) (new : State K) → IsOfPool w there → w'.replicas r ≡ new → Steps form (w.replicas r) there (Ok told) new → P r new × ((sent : Sent) → told ≡ Gave sent → B sent.body)) →
      Mover given w' → Hold P B w'
  keeps P B given w' old by (No_replica replicas records other) =
      record { replicas = λ r. subst (λ (f : ℕ → State K). P r (f r)) (sym replicas) (old.replicas r); records = λ sent i. old.records sent (subst (In sent) records i) }
  keeps P B (answer.Stepped (Ok told)) w' old by (A_replica r there pool step) =
      let new = step.1 in
      let made = by r there told new pool (ap (λ (z : World K). z.replicas r) step.3 ∙ at_same w.replicas r new) step.2 in
      subst (Hold P B) (sym step.3) (record {
        replicas = λ q. at_elim P w.replicas r new q made.0 (old.replicas q);
        records = λ sent i. elim (given_record (with_replica w r new) told sent i) [ inl e ↦ made.1 sent e | inr j ↦ old.records sent j ];
      })
  keeps P B (answer.Stepped (Err x)) w' old by (A_replica r there pool step) = subst (Hold P B) (sym step.3) (record {
    replicas = λ q. at_elim P w.replicas r step.1 q (subst (P r) (sym (step_refused form (w.replicas r) there x step.1 step.2)) (old.replicas r)) (old.replicas q);
    records = old.records;
  })
  keeps P B given w' old by (A_replica r there pool step) = absurd step
