-- What one event makes of a world over all ids, part by part.
use Rattle.std.proofs.Common.{◌≡◌, ◌≢◌, arith, ap, ◌∙◌, ℕ, Some}
use Rattle.mr_world.proofs.Names.Lists.{Err, Result}
use Rattle.mr_world.proofs.Names.Replica.{Event as ReplicaEvent, OutOfMemory, Refusal, Reply, State, Steps}
use Rattle.mr_world.proofs.Names.Model.{Event, Indexer, Notifier, Subscriber, at, at_two, subscriber_number}
use Rattle.mr_world.proofs.Names.Mails.{Form, Mail}
use Rattle.mr_world.proofs.Names.World.{Answer, Closes, Does, MemberView, Moves, Offers, Port, StepsTo, Takes, Task, World, all_given, asked}
use Rattle.mr_world.proofs.Names.World.{member_of, port_of, with_given as lists_with, with_member, with_port as member_with_port}
use Rattle.mr_world.specs.declared.answer.Answer.TheVariants as answer
use Rattle.mr_world.specs.declared.task.Task.TheVariants.{Step, Truncated, Offer, Take, Close}
use Rattle.mr_world.proofs.Groundwork.Tools.{at_self}

module _ {K : Type 0} where
  -- the pools with what was given
  abbrev pub with_given : World K → Result Reply Refusal → World K
  with_given w given = let lists = lists_with (all_given w) (answer.Stepped given) in record w { asks = lists.asks; records = lists.records; receipts = lists.receipts }

  -- a replica has become new
  abbrev pub with_replica : World K → ℕ → State K → World K
  with_replica w r new = record w { replicas = at w.replicas r new }

  -- a port has become new
  abbrev pub with_port : World K → (replica subscriber : ℕ) → Port → World K
  with_port w r u port = record w { ports = at_two w.ports r u port }

  -- a port takes part in the event
  abbrev pub OnPort : World K → (replica subscriber : ℕ) → (Port → Answer → Port → Type 0) → Answer → World K → Type 0
  OnPort w r u may given w' = (new : Port) × may (w.ports r u) given new × (w' ≡ with_port w r u new)

module _ {K : Type 0} (form : Form K) where
  -- a replica answers its event, and what it gave comes into the pools
  abbrev pub StepsAt : World K → ℕ → ReplicaEvent → Answer → World K → Type 0
  StepsAt w r event (answer.Stepped given) w' =
      (given ≢ Err OutOfMemory) × (new : State K) × Steps form (w.replicas r) event given new × (w' ≡ with_given (with_replica w r new) given)
  StepsAt w r event given w' = ⊥

  -- a task is done at a replica
  abbrev pub DoesAt : World K → ℕ → Task → Answer → World K → Type 0
  DoesAt w r (Step event) given w' = StepsAt w r event given w'
  DoesAt w r Truncated given w' = (given ≡ answer.Truncated) × (w' ≡ w)
  DoesAt w r (Offer u) given w' = OnPort w r (subscriber_number u) (Offers (w.replicas r).feed) given w'
  DoesAt w r (Take u) given w' = OnPort w r (subscriber_number u) Takes given w'
  DoesAt w r (Close u) given w' = OnPort w r (subscriber_number u) Closes given w'

  -- what the event's act asks is done
  abbrev pub MovesAt : World K → Event Mail → Answer → World K → Type 0
  MovesAt w e given w' = (t : Task) × (asked w.asks w.records w.receipts e.act ≡ Some t) × DoesAt w e.replica t given w'

-- ---- tables of ports

module _ {A : Type 0} (f : ℕ → ℕ → A) (r q t : ℕ) where
  -- both ports of a replica are put back
  ports_back : at_two (at_two f r 0 (f r 0)) r 1 (f r 1) q t ≡ f q t
  ports_back = grind arith

  -- one of them is new
  first_new : (x : A) → at_two (at_two f r 0 x) r 1 (f r 1) q t ≡ at_two f r 0 x q t
  first_new x = grind arith

  second_new : (x : A) → at_two (at_two f r 0 (f r 0)) r 1 x q t ≡ at_two f r 1 x q t
  second_new x = grind arith

-- ---- a member that does a task is a part that does it

module _ {K : Type 0} (w : World K) (r : ℕ) where
  abbrev m : MemberView K
  m = member_of w r

  -- its replica is new, and gave something
  stepped : (s : State K) (given : Result Reply Refusal) → with_member w r (record m { replica = s }) (answer.Stepped given) ≡ with_given (with_replica w r s) given
  stepped s given = λ i. record (with_given (with_replica w r s) given) { ports = λ q t. ports_back w.ports r q t i }

  -- nothing is new
  unchanged : (given : Answer) → given ≡ answer.Truncated → with_member w r m given ≡ w
  unchanged given is = ap (with_member w r m) is ∙ (λ i. record w { replicas = at_self w.replicas r i; ports = λ q t. ports_back w.ports r q t i })

  -- one of its ports is new, and answers as no replica does
  on_port : (May : Port → Answer → Port → Type 0) → ((p p' : Port) (x : Result Reply Refusal) → ¬ May p (answer.Stepped x) p') → (u : Subscriber) (given : Answer) (new : MemberView K) (w' : World K) →
      May (port_of m u) given (port_of new u) → new ≡ member_with_port m u (port_of new u) → w' ≡ with_member w r new given → OnPort w r (subscriber_number u) May given w'
  on_port May never u (answer.Stepped x) new w' may is then = absurd (never (port_of m u) (port_of new u) x may)
  on_port May never Indexer given new w' may is then =
      (new.indexer, may, then ∙ (ap (λ (n : MemberView K). with_member w r n given) is ∙ (λ i. record w { replicas = at_self w.replicas r i; ports = λ q t. first_new w.ports r q t new.indexer i })))
  on_port May never Notifier given new w' may is then =
      (new.notifier, may, then ∙ (ap (λ (n : MemberView K). with_member w r n given) is ∙ (λ i. record w { replicas = at_self w.replicas r i; ports = λ q t. second_new w.ports r q t new.notifier i })))

  module _ (form : Form K) (new : MemberView K) (w' : World K) where
    steps_at : (event : ReplicaEvent) (given : Answer) → StepsTo form event (w.replicas r) given new.replica → new ≡ record m { replica = new.replica } → w' ≡ with_member w r new given → StepsAt form w r event given w'
    steps_at event (answer.Stepped given) h is then =
        (h.0, new.replica, h.1, then ∙ (ap (λ (n : MemberView K). with_member w r n (answer.Stepped given)) is ∙ stepped new.replica given))
    steps_at event given h is then = grind (arith, with_member, stepped)

    does_at : (t : Task) (given : Answer) → Does form t m given new → w' ≡ with_member w r new given → DoesAt form w r t given w'
    does_at (Step event) given h then = steps_at event given h.0 h.1 then
    does_at Truncated given h then = (h.0, then ∙ (ap (λ (n : MemberView K). with_member w r n given) h.1 ∙ unchanged given h.0))
    does_at (Offer u) given h then = on_port (Offers m.replica.feed) (λ p p' x h. h) u given new w' h.0 h.1 then
    does_at (Take u) given h then = on_port Takes (λ p p' x h. h) u given new w' h.0 h.1 then
    does_at (Close u) given h then = on_port Closes (λ p p' x h. h) u given new w' h.0 h.1 then

module _ {K : Type 0} (form : Form K) where
  -- a move is one, part by part
  pub by_parts : (w : World K) (e : Event Mail) (given : Answer) (w' : World K) → Moves form w e given w' → MovesAt form w e given w'
  by_parts w e given w' move = (move.0, move.2, does_at w e.replica form move.1 w' move.0 given move.3 move.4)
