-- what the words of a line name
use Rattle.std.specs.Prelude.{◌≡◌, ◌<◌, ◌^◌, ◌∷◌, ℕ, not, List, codes}
use Rattle.std.specs.Fmt.{decimal}
use Rattle.mr_model.specs.declared.event.Subscriber.{Subscriber}
use Rattle.mr_model.specs.declared.event.Subscriber.TheVariants.{Indexer, Notifier}
use Rattle.mr_command.specs.declared.fault.LineFault.TheVariants.{BadNumber, SameReplica, NoSuchReplica, NoSuchFrame}
use Rattle.mr_command.specs.declared.pool.Pool.{Pool}
use Rattle.mr_command.specs.Number.{SpellsId}
use Rattle.mr_command.specs.Pool.{letter_of}
use Rattle.mr_command.specs.Reading.{Reading, names, gives_if, ◌andthen◌}
use Rattle.mr_command.specs.Scene.{Scene}

-- the word is the pool's letter and then this number
pub record SpellsFrame (pool : Pool) (word : List ℕ) (n : ℕ) : Type 0 where
  pub spelled : word ≡ letter_of pool ∷ decimal n
  pub in_range : n < 2 ^ 64

-- the word begins with the pool's letter
abbrev pub BeginsWithLetter : List ℕ → Pool → Type 0
BeginsWithLetter word pool = (rest : List ℕ) × (word ≡ letter_of pool ∷ rest)

-- how a subscriber is written
abbrev pub subscriber_name : Subscriber → List ℕ
subscriber_name Indexer = codes "indexer"
subscriber_name Notifier = codes "notifier"

-- the word is the subscriber's name
abbrev pub NamesSubscriber : List ℕ → Subscriber → Type 0
NamesSubscriber word subscriber = subscriber_name subscriber ≡ word

module _ (scene : Scene) where
  -- the id of a replica that is there
  abbrev pub reads_replica : List ℕ → Reading ℕ
  reads_replica word = names SpellsId BadNumber word andthen λ id. gives_if (scene.has_replica id) NoSuchReplica id

  -- an id that no replica has yet
  abbrev pub reads_new_id : List ℕ → Reading ℕ
  reads_new_id word = names SpellsId BadNumber word andthen λ id. gives_if (not (scene.has_replica id)) SameReplica id

  -- the number of a frame that is in the pool
  abbrev pub reads_frame : Pool → List ℕ → Reading ℕ
  reads_frame pool word = names (SpellsFrame pool) BadNumber word andthen λ n. gives_if (scene.has_frame pool n) NoSuchFrame n
