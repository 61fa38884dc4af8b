-- A history of a world: its events, each with its answer.
use Rattle.std.specs.Prelude.{ℕ, Bool, List}
use Rattle.std.specs.List.{list_any}
use Rattle.mr_version.specs.Name.{Name}
use Rattle.mr_model.specs.Versions.{Versions, is}
use Rattle.mr_model.specs.declared.event.Act.{Act}
use Rattle.mr_model.specs.declared.event.Event.{Event}
use Rattle.mr_model.specs.declared.event.Subscriber.{Subscriber}
use Rattle.mr_model.specs.declared.event.Subscriber.TheVariants.{Indexer, Notifier}

-- what a world is over: messages M, the card C that a feed shows of a message, and which messages each replica's filter selects
pub record Setting (M C : Type 0) : Type 0 where
  pub card : M → C
  pub selects : (replica : ℕ) → M → Bool

-- ---- what replicas give one another

-- a request of a target, for the session that it opened: its knowledge covers these issued versions
pub record Ask : Type 0 where
  pub target : ℕ
  pub session : ℕ
  pub claimed : List Name

-- the Ask claims v
abbrev pub claims : Ask → Versions
claims ask v = list_any (λ u. is u v) ask.claimed

-- What Held and Know records carry is no part of them here: it is `held_at_draw` and `known_at_answer` of a moment.
pub data Body : Type 0 where
  Start : (full : Bool) → Body
  Item : Name → Body
  MoveOut : Name → Body
  Held : Body
  Know : Body
  End : Body

-- one record of a stream of its source, for a session of its target
pub record Record : Type 0 where
  pub source : ℕ
  pub stream : ℕ
  pub target : ℕ
  pub session : ℕ
  pub index : ℕ
  pub body : Body

-- the giver stored this version as it vouched
pub record Receipt : Type 0 where
  pub giver : ℕ
  pub version : Name

-- an entry of a feed
pub data Entry (C : Type 0) : Type 0 where
  Added : (item version : Name) → (card : C) → Entry C
  Dropped : (item version : Name) → Entry C

-- ---- events and answers

-- the event by which the replica does this
abbrev pub ◌does◌ : {M : Type 0} → ℕ → Act M → Event M
r does act = record { replica = r; act = act }

infix 10 ◌does◌
-- the number of a subscriber
abbrev pub subscriber_number : Subscriber → ℕ
subscriber_number Indexer = 0
subscriber_number Notifier = 1

-- what is answered
pub data Reply (C : Type 0) : Type 0 where
  Issued : Name → Reply C
  Done : Reply C
  Asked : Ask → Reply C
  Streaming : (stream : ℕ) → Reply C
  Gave : Record → Reply C
  Took : Reply C
  Known : Reply C
  Finished : Reply C
  Offered : Entry C → Reply C
  TookEntry : Entry C → Reply C
  Vouched : Receipt → Reply C
  -- each refusal; and what a port or a truncated frame answers in place of an entry: none of these changes anything
  Refused : Reply C

-- one event with its answer
pub record Step (M C : Type 0) : Type 0 where
  pub event : Event M
  pub reply : Reply C

-- the oldest first
abbrev pub History : (M C : Type 0) → Type 0
History M C = List (Step M C)
