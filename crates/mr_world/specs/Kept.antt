-- a world as contracts see it
use Rattle.std.specs.Prelude.{ℕ, ◌==◌, ◌-◌, Option, List, find, length, slice_get}
use Rattle.std.specs.Option.{option_map}
use Rattle.mr_model.specs.declared.event.Subscriber.{Subscriber}
use Rattle.mr_model.specs.declared.event.Subscriber.TheVariants.{Indexer, Notifier}
use Rattle.mr_replica.specs.State.{State}
use Rattle.mr_wire.specs.Frames.{Question, Sent}
use Rattle.mr_wire.specs.declared.frame.Receipt.{Receipt}
use Rattle.mr_world.specs.Given.{GivenLists}
use Rattle.mr_world.specs.Pool.{PoolList, questions_in, sents_in, receipts_in}
use Rattle.mr_world.specs.Ports.{Port}
use Rattle.mr_world.specs.declared.answered.Answered.{Answered}

-- a replica with the ports to its two subscribers
pub record MemberView (K : Type 0) : Type 0 where
  pub replica : State K
  pub indexer : Port
  pub notifier : Port

-- The members in the order in which they were made; the three pools, the newest first; and each event so far with its answer, the oldest first.
pub record WorldView (K : Type 0) : Type 0 where
  pub members : List (MemberView K)
  pub asks : List Question
  pub records : List Sent
  pub receipts : List Receipt
  pub answers : List Answered

module _ {K : Type 0} where
  -- the port to a subscriber
  abbrev pub port_of : MemberView K → Subscriber → Port
  port_of m Indexer = m.indexer
  port_of m Notifier = m.notifier

  -- the member with another port to a subscriber
  abbrev pub with_port : MemberView K → Subscriber → Port → MemberView K
  with_port m Indexer port = record m { indexer = port }
  with_port m Notifier port = record m { notifier = port }

  -- the world of these members, of what these frames are, and of these answers
  abbrev pub world_view : List (MemberView K) → PoolList → List Answered → WorldView K
  world_view members pools answers = record {
    members = members;
    asks = questions_in pools.asks.frames;
    records = sents_in pools.records.frames;
    receipts = receipts_in pools.receipts.frames;
    answers = answers;
  }

  -- what its replicas gave
  abbrev pub given_in : WorldView K → GivenLists
  given_in w = record { asks = w.asks; records = w.records; receipts = w.receipts }

  -- the newest event with its answer, where there is one
  abbrev pub newest_answered : WorldView K → Option Answered
  newest_answered w = slice_get w.answers (length w.answers - 1)

  -- the member whose replica has this id
  abbrev pub member_at : List (MemberView K) → ℕ → Option (MemberView K)
  member_at members r = find (λ m. m.replica.id == r) members

  -- the replica of this id
  abbrev pub replica_at : List (MemberView K) → ℕ → Option (State K)
  replica_at members r = option_map (λ m. m.replica) (member_at members r)
