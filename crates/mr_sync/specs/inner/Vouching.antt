-- which heads get a receipt
use Rattle.std.specs.Prelude.{◌≡◌, ◌⊎◌, ◌++◌, ◌||◌, ◌∷◌, ℕ, Bool, false, IsTrue, List, [], Option, Some, None, Contains}
use Rattle.std.specs.BTreeMap.{BTreeMap, get}
use Rattle.mr_concise.specs.Vector.{vector_has}
use Rattle.mr_folder.specs.Store.{IsKept}
use Rattle.mr_folder.specs.Tree.{Tree}
use Rattle.mr_madewith.specs.Revision.{Rev}
use Rattle.mr_replica.specs.declared.event.Event.{Event}
use Rattle.mr_replica.specs.declared.event.Event.TheVariants.{Vouch}
use Rattle.mr_version.specs.Name.{Name, name_cmp, name_eq}
use Rattle.mr_sync.specs.Named.{NeedsFile}
use Rattle.mr_sync.specs.declared.lists.PushOut.{PushOut}

-- a head is what waits of its item, or supersedes it
abbrev pub is_answer : Option Name → Rev → Bool
is_answer None head = false
is_answer (Some version) head = name_eq head.version version || vector_has head.below version

module _ {F : Type 0} (seen : F → Tree) (may_leave : F → Tree → Type 0) where
  -- the head's mail needs no file; or the store has its file, and whatever a crash leaves has it
  abbrev pub HasItsFile : Rev → F → Type 0
  HasItsFile head files = (digest : List ℕ) → NeedsFile head.message digest → IsKept seen may_leave digest files

  -- one of the heads has this version, is what waits of its item or supersedes that, and has its file
  pub record IsVouchedFor (heads : List Rev) (waiting : BTreeMap Name Name) (files : F) (version : Name) : Type 0 where
    pub head : Rev
    pub is : Contains heads head
    pub version_is : head.version ≡ version
    pub answers : IsTrue (is_answer (get name_cmp waiting head.item) head)
    pub file : HasItsFile head files

  -- the event gives a receipt for such a head
  abbrev pub GivesReceipt : List Rev → BTreeMap Name Name → F → Event → Type 0
  GivesReceipt heads waiting files (Vouch version) = IsVouchedFor heads waiting files version
  GivesReceipt heads waiting files event = ⊥

-- the event gives a receipt for one of these
abbrev pub IsVouchOf : List PushOut → Event → Type 0
IsVouchOf heads (Vouch version) = (p : PushOut) × Contains heads p × (p.version ≡ version)
IsVouchOf heads event = ⊥

-- the head comes behind those that are vouched for, and then it answers what waits and has its file; or none comes
abbrev pub AddsAnswer : {F : Type 0} → (F → Tree) → (F → Tree → Type 0) → Rev → BTreeMap Name Name → F → (old new : List PushOut) → Type 0
AddsAnswer seen may_leave head waiting files old new = (new ≡ old)
    ⊎ ((p : PushOut) × (new ≡ old ++ p ∷ []) × (p.version ≡ head.version) × IsTrue (is_answer (get name_cmp waiting head.item) head) × HasItsFile seen may_leave head files)
