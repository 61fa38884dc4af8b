-- What a move is, by what its act asks.
use Rattle.std.proofs.Common.{◌≡◌, refl, sym, subst, ◌∙◌, ℕ, Bool, true, false, cond, Option, Some, None, arith}
use Rattle.mr_world.proofs.Names.Lists.{Result, nat_lt, option_map}
use Rattle.mr_world.proofs.Names.Wire.{Question, Receipt, Sent}
use Rattle.mr_world.proofs.Names.Replica.{Event as ReplicaEvent, Refusal, Reply, some_same}
use Rattle.mr_world.proofs.Names.Model.{Act, Event, In, numbered, ◌does◌}
use Rattle.mr_world.proofs.Names.Laws.{numbered_in}
use Rattle.mr_world.proofs.Names.Mails.{Form, Mail}
use Rattle.mr_world.proofs.Names.World.{Answer, Task, World, answering, asked, delivering, receiving, record_len, releasing}
use Rattle.mr_model.specs.declared.event.Act.TheVariants as act
use Rattle.mr_replica.specs.declared.event.Event.TheVariants as replica
use Rattle.mr_wire.specs.declared.frame.Frame.TheVariants as frame
use Rattle.mr_world.specs.declared.answer.Answer.TheVariants as answer
use Rattle.mr_world.specs.declared.task.Task.TheVariants as task
-- mr_script's proofs cite it by this name
pub use Rattle.mr_replica.proofs.Choice.{some_same as some_is}
use Rattle.mr_world.proofs.Moving.ByParts.{DoesAt, MovesAt, StepsAt}

-- what is made of something is made of what is there
pub found : {A B : Type 0} (f : A → B) (o : Option A) (t : B) → option_map f o ≡ Some t → (x : A) × (o ≡ Some x) × (f x ≡ t)
found f None t e = absurd (cc)
found f (Some x) t e = (x, refl, some_same (f x) t e)

-- so many bytes of a record come as a part, or as the record
pub data IsPartOf (bytes : ℕ) (sent : Sent) (t : Task) : Type 0 where
  Some_bytes : nat_lt bytes (record_len sent) ≡ true → t ≡ task.Truncated → IsPartOf bytes sent t
  All_bytes : nat_lt bytes (record_len sent) ≡ false → t ≡ receiving sent → IsPartOf bytes sent t

pub part_or_whole : (bytes : ℕ) (sent : Sent) (t : Task) → delivering bytes sent ≡ t → IsPartOf bytes sent t
part_or_whole bytes sent t e = grind (arith, record_len, receiving)

module _ {K : Type 0} (form : Form K) (w : World K) where
  -- what the act asks is done
  pub done : (e : Event Mail) (t : Task) (given : Answer) (w' : World K) → asked w.asks w.records w.receipts e.act ≡ Some t → MovesAt form w e given w' → DoesAt form w e.replica t given w'
  done e t given w' is move = subst (λ (u : Task). DoesAt form w e.replica u given w') (some_same move.0 t (sym move.1 ∙ is)) move.2

  -- where it is an event of the replica, that is answered
  pub step_of : (e : Event Mail) (there : ReplicaEvent) (given : Answer) (w' : World K) → asked w.asks w.records w.receipts e.act ≡ Some (task.Step there) → MovesAt form w e given w' → StepsAt form w e.replica there given w'
  step_of e there given w' is move = done e (task.Step there) given w' is move

  -- the record of a Receive is taken
  pub receives_one : (r n : ℕ) (given : Answer) (w' : World K) → MovesAt form w (r does act.Receive n) given w' → (sent : Sent) × (numbered w.records n ≡ Some sent) × StepsAt form w r (replica.Receive (frame.Record sent)) given w'
  receives_one r n given w' move = let x = found receiving (numbered w.records n) move.0 move.1 in (x.0, x.1, subst (λ (u : Task). DoesAt form w r u given w') (sym x.2) move.2)

  -- and that of a DeliverPart, where its replica replies
  pub delivers_one : (r n bytes : ℕ) (told : Result Reply Refusal) (w' : World K) → MovesAt form w (r does act.DeliverPart n bytes) (answer.Stepped told) w' →
      (sent : Sent) × (numbered w.records n ≡ Some sent) × StepsAt form w r (replica.Receive (frame.Record sent)) (answer.Stepped told) w'
  delivers_one r n bytes told w' move = let x = found (delivering bytes) (numbered w.records n) move.0 move.1 in (x.0, x.1, whole x.0 (part_or_whole bytes x.0 move.0 x.2))
    where
      whole : (sent : Sent) → IsPartOf bytes sent move.0 → StepsAt form w r (replica.Receive (frame.Record sent)) (answer.Stepped told) w'
      whole sent (Some_bytes few is) = let cut : DoesAt form w r task.Truncated (answer.Stepped told) w' = subst (λ (u : Task). DoesAt form w r u (answer.Stepped told) w') is move.2 in let none = cut.0 in absurd (cc)
      whole sent (All_bytes few is) = subst (λ (u : Task). DoesAt form w r u (answer.Stepped told) w') is move.2

-- ---- records of the pool

module _ {K : Type 0} (w : World K) where
  -- a record that the replica is to take is one of the pool
  abbrev pub IsOfPool : ReplicaEvent → Type 0
  IsOfPool there = (sent : Sent) → there ≡ replica.Receive (frame.Record sent) → In sent w.records

  there_is : (n : ℕ) (x : Sent) (there : ReplicaEvent) → numbered w.records n ≡ Some x → receiving x ≡ task.Step there → IsOfPool there
  there_is n x there at is sent e = let same : x ≡ sent = cc (is, e) in subst (λ (z : Sent). In z w.records) same (numbered_in w.records n x at)

  part_is : (n bytes : ℕ) (x : Sent) (there : ReplicaEvent) → numbered w.records n ≡ Some x → IsPartOf bytes x (task.Step there) → IsOfPool there
  part_is n bytes x there at h = grind (arith, there_is)

  -- whatever an act asks of a replica
  pub of_pool : (a : Act Mail) (there : ReplicaEvent) → asked w.asks w.records w.receipts a ≡ Some (task.Step there) → IsOfPool there
  of_pool (act.Receive n) there is = let x = found receiving (numbered w.records n) (task.Step there) is in there_is n x.0 there x.1 x.2
  of_pool (act.DeliverPart n bytes) there is =
      let x = found (delivering bytes) (numbered w.records n) (task.Step there) is in part_is n bytes x.0 there x.1 (part_or_whole bytes x.0 (task.Step there) x.2)
  of_pool (act.Answer n) there is = λ sent e. (let x = found answering (numbered w.asks n) (task.Step there) is in absurd (no_answer x.0 sent x.2 e))
    where
      no_answer : (question : Question) (sent : Sent) → answering question ≡ task.Step there → there ≡ replica.Receive (frame.Record sent) → ⊥
      no_answer question sent a b = cc
  of_pool (act.Release n) there is = λ sent e. (let x = found releasing (numbered w.receipts n) (task.Step there) is in absurd (no_release x.0 sent x.2 e))
    where
      no_release : (receipt : Receipt) (sent : Sent) → releasing receipt ≡ task.Step there → there ≡ replica.Receive (frame.Record sent) → ⊥
      no_release receipt sent a b = cc
  of_pool a there is = grind (arith, found, receiving, numbered, there_is, delivering, part_is, part_or_whole, answering, releasing)
