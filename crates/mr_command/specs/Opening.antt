-- the lines that make replicas
use Rattle.std.specs.Prelude.{◌≡◌, ℕ, List, ◌∷◌, Ok, Err}
use Rattle.mr_feed.specs.declared.port.TheConstants.{MAX_CAPACITY}
use Rattle.mr_replica.specs.declared.replica.TheConstants.{MAX_EVENTS}
use Rattle.mr_filter.specs.Fault.{IsFaultOf}
use Rattle.mr_filter.specs.Filter.{ClauseParts}
use Rattle.mr_filter.specs.Grammar.{Reads}
use Rattle.mr_filter.specs.declared.fault.FilterFault.{FilterFault}
use Rattle.mr_world.specs.declared.spec.Spec.{Spec}
use Rattle.mr_command.specs.declared.fault.LineFault.TheVariants.{WrongWords, LateReplica, BadLimit, BadCapacity}
use Rattle.mr_command.specs.Fault.{fault_of_filter}
use Rattle.mr_command.specs.Named.{reads_new_id}
use Rattle.mr_command.specs.Number.{reads_up_to}
use Rattle.mr_command.specs.Reading.{Reading, gives, fails, choose, ◌andthen◌}
use Rattle.mr_command.specs.Scene.{Scene}
use Rattle.mr_command.specs.Words.{unwords}

-- the words after `replica` as they stand
pub record SpecParts : Type 0 where
  pub id : List ℕ
  pub limit : List ℕ
  pub capacity : List ℕ
  pub filter : List ℕ

-- `ID LIMIT CAP FILTER`, of which FILTER is the rest
abbrev pub takes_spec : List (List ℕ) → Reading SpecParts
takes_spec (id ∷ limit ∷ capacity ∷ f ∷ filter) =
    gives (record { id = id; limit = limit; capacity = capacity; filter = unwords (f ∷ filter) })
takes_spec args = fails WrongWords

-- the filter that the text means, or why it means none
abbrev pub reads_filter : List ℕ → Reading (List ClauseParts)
reads_filter text (Ok filter) = Reads text filter
reads_filter text (Err fault) = (f : FilterFault) × IsFaultOf text f × (fault ≡ fault_of_filter f)

module _ (scene : Scene) where
  -- an id that is new, an event limit, a capacity and a filter, each in its turn
  abbrev pub reads_spec : SpecParts → Reading Spec
  reads_spec p =
      reads_new_id scene p.id andthen λ id.
      reads_up_to MAX_EVENTS BadLimit p.limit andthen λ limit.
      reads_up_to MAX_CAPACITY BadCapacity p.capacity andthen λ capacity.
      reads_filter p.filter andthen λ filter.
      gives (record { id = id; filter = filter; event_limit = limit; port_capacity = capacity })

  -- such a line comes before all others
  abbrev pub reads_opening : List (List ℕ) → Reading Spec
  reads_opening args = takes_spec args andthen λ p. choose scene.is_opening (reads_spec p) (fails LateReplica)
