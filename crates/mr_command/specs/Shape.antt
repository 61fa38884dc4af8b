-- lines of a replica, and of one thing more at most
use Rattle.std.specs.Prelude.{ℕ, List}
use Rattle.mr_version.specs.Name.{Name}
use Rattle.mr_model.specs.declared.event.Subscriber.{Subscriber}
use Rattle.mr_command.specs.declared.fault.LineFault.TheVariants.{BadNumber, BadVersion}
use Rattle.mr_command.specs.declared.pool.Pool.{Pool}
use Rattle.mr_command.specs.List.{SpellsVersion}
use Rattle.mr_command.specs.Named.{NamesSubscriber, reads_replica, reads_frame}
use Rattle.mr_command.specs.Number.{SpellsNumber}
use Rattle.mr_command.specs.Reading.{Reading, gives, names, ◌andthen◌}
use Rattle.mr_command.specs.Scene.{Scene}
use Rattle.mr_command.specs.Taking.{takes_one, takes_two}

module _ (scene : Scene) where
  -- `R`
  abbrev pub reads_alone : List (List ℕ) → Reading ℕ
  reads_alone args = takes_one args andthen λ replica. reads_replica scene replica

  -- `R`, and a second word, which is read by `reads`
  abbrev pub reads_two : {X : Type 0} → (List ℕ → Reading X) → List (List ℕ) → Reading (ℕ × X)
  reads_two reads args =
      takes_two args andthen λ (replica, word).
      reads_replica scene replica andthen λ id.
      reads word andthen λ x.
      gives (id, x)

  -- `R N`
  abbrev pub reads_numbered : List (List ℕ) → Reading (ℕ × ℕ)
  reads_numbered = reads_two (names SpellsNumber BadNumber)

  -- `R` and a frame of the pool
  abbrev pub reads_framed : Pool → List (List ℕ) → Reading (ℕ × ℕ)
  reads_framed pool = reads_two (reads_frame scene pool)

  -- `R S`
  abbrev pub reads_followed : List (List ℕ) → Reading (ℕ × Subscriber)
  reads_followed = reads_two (names NamesSubscriber BadNumber)

  -- `R V`
  abbrev pub reads_versioned : List (List ℕ) → Reading (ℕ × Name)
  reads_versioned = reads_two (names SpellsVersion BadVersion)
