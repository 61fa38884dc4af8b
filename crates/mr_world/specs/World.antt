-- A world over all ids, as laws see it.
use Rattle.std.specs.Prelude.{ℕ, ◌==◌, if◌then◌else◌, Option, Some, None, List}
use Rattle.mr_model.specs.History.{subscriber_number}
use Rattle.mr_model.specs.Moment.{at, at_two}
use Rattle.mr_model.specs.declared.event.Subscriber.TheVariants.{Indexer, Notifier}
use Rattle.mr_replica.specs.State.{State}
use Rattle.mr_wire.specs.Frames.{Question, Sent}
use Rattle.mr_wire.specs.declared.frame.Receipt.{Receipt}
use Rattle.mr_world.specs.Given.{GivenLists, with_given}
use Rattle.mr_world.specs.Kept.{MemberView, WorldView, member_at}
use Rattle.mr_world.specs.Ports.{Port}
use Rattle.mr_world.specs.declared.answer.Answer.{Answer}

-- The pools have the newest first, and number what they have from 1, the oldest. An id at which no replica was made has
-- one to which nothing happens.
pub record World (K : Type 0) : Type 0 where
  pub replicas : ℕ → State K
  pub asks : List Question
  pub records : List Sent
  pub receipts : List Receipt
  pub ports : (replica subscriber : ℕ) → Port

module _ {K : Type 0} where
  -- what its replicas gave
  abbrev pub all_given : World K → GivenLists
  all_given w = record { asks = w.asks; records = w.records; receipts = w.receipts }

  -- the replica of an id, with its ports
  abbrev pub member_of : World K → ℕ → MemberView K
  member_of w r = record { replica = w.replicas r; indexer = w.ports r (subscriber_number Indexer); notifier = w.ports r (subscriber_number Notifier) }

  -- the world in which the member of an id has become this one, and gave what is in the answer
  abbrev pub with_member : World K → ℕ → MemberView K → Answer → World K
  with_member w r m answer = record {
    replicas = at w.replicas r m.replica;
    asks = (with_given (all_given w) answer).asks;
    records = (with_given (all_given w) answer).records;
    receipts = (with_given (all_given w) answer).receipts;
    ports = at_two (at_two w.ports r (subscriber_number Indexer) m.indexer) r (subscriber_number Notifier) m.notifier;
  }

  -- ---- the world of those members that there are

  -- what was found, or m
  abbrev pub found_or : MemberView K → Option (MemberView K) → MemberView K
  found_or m None = m
  found_or m (Some n) = n

  -- the port of that number, or the third
  abbrev pub port_numbered : MemberView K → Port → ℕ → Port
  port_numbered m third u = if u == 0 then m.indexer else (if u == 1 then m.notifier else third)

  -- The world of these members and pools: an id of no member has an unused one; a number of no subscriber has the port `third`.
  abbrev pub world_of : (unused : ℕ → MemberView K) → (third : Port) → WorldView K → World K
  world_of unused third w = record {
    replicas = λ r. (found_or (unused r) (member_at w.members r)).replica;
    asks = w.asks;
    records = w.records;
    receipts = w.receipts;
    ports = λ r u. port_numbered (found_or (unused r) (member_at w.members r)) third u;
  }
