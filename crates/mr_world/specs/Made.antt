-- of what a world is made, and what it is then
use Rattle.std.specs.Prelude.{◌≡◌, ◌==◌, ◌||◌, Bool, false, nat_lt, if◌then◌else◌, Option, Some, None, List, [], ◌∷◌}
use Rattle.std.specs.List.{list_any, AllZip}
use Rattle.mr_forms.specs.Known.{Form}
use Rattle.mr_feed.specs.declared.port.TheConstants.{MAX_CAPACITY}
use Rattle.mr_replica.specs.Replay.{IsFresh}
use Rattle.mr_replica.specs.declared.replica.TheConstants.{MAX_EVENTS}
use Rattle.mr_world.specs.Ports.{new_port}
use Rattle.mr_world.specs.Kept.{MemberView, WorldView}
use Rattle.mr_world.specs.declared.fault.SpecFault.{SpecFault}
use Rattle.mr_world.specs.declared.fault.SpecFault.TheVariants.{OutOfMemory, SameReplica, BadLimit, NoCapacity}
use Rattle.mr_world.specs.declared.spec.Spec.{Spec}

-- two of them have one id
abbrev pub has_same_id : List Spec → Bool
has_same_id [] = false
has_same_id (spec ∷ specs) = list_any (λ other. other.id == spec.id) specs || has_same_id specs

abbrev pub has_bad_limit : Spec → Bool
has_bad_limit spec = (spec.event_limit == 0) || nat_lt MAX_EVENTS spec.event_limit

abbrev pub has_bad_capacity : Spec → Bool
has_bad_capacity spec = (spec.port_capacity == 0) || nat_lt MAX_CAPACITY spec.port_capacity

-- The first fault whose case holds of any of them.
abbrev pub spec_refusal : List Spec → Option SpecFault
spec_refusal specs =
    if has_same_id specs then Some SameReplica
    else (if list_any has_bad_limit specs then Some BadLimit
    else (if list_any has_bad_capacity specs then Some NoCapacity else None))

-- the fault is this one, or memory is wanting where there is none
abbrev pub IsRefusedBy : Option SpecFault → SpecFault → Type 0
IsRefusedBy refusal OutOfMemory = refusal ≡ None
IsRefusedBy refusal fault = refusal ≡ Some fault

module _ {K : Type 0} (form : Form K) where
  -- the member was made of this, and nothing has happened to it
  pub record IsMadeOf (spec : Spec) (m : MemberView K) : Type 0 where
    pub replica : IsFresh form spec.id spec.filter spec.event_limit m.replica
    pub indexer : m.indexer ≡ new_port spec.port_capacity
    pub notifier : m.notifier ≡ new_port spec.port_capacity

  -- the world was made of these, in their order, and nothing has happened in it
  pub record IsMadeWorld (specs : List Spec) (w : WorldView K) : Type 0 where
    pub members : AllZip IsMadeOf specs w.members
    pub asks : w.asks ≡ []
    pub records : w.records ≡ []
    pub receipts : w.receipts ≡ []
    pub answers : w.answers ≡ []
