-- what other replicas may know of this one
use Rattle.std.specs.Prelude.{◌≡◌, ◌≢◌, ◌<◌, ℕ, List, All, Any}
use Rattle.mr_version.specs.Name.{Name}
use Rattle.mr_kept.specs.declared.peer.PeerFault.{PeerFault}
use Rattle.mr_kept.specs.declared.peer.PeerFault.TheVariants.{OldCopy, OtherBirth}

-- a version of this id that is above those that were issued
abbrev pub IsAbove : (id issued : ℕ) → Name → Type 0
IsAbove id issued v = (v.author ≡ id) × (issued < v.counter)

-- a journal of this id that was begun at another time
abbrev pub IsOther : (id : ℕ) → (birth : List ℕ) → ℕ × List ℕ → Type 0
IsOther id birth told = (told.0 ≡ id) × (told.1 ≢ birth)

-- why what is told doesn't go with this replica
abbrev pub IsPeerFault : (id issued : ℕ) → (birth : List ℕ) → List Name → List (ℕ × List ℕ) → PeerFault → Type 0
IsPeerFault id issued birth highest births OldCopy = Any (IsAbove id issued) highest
IsPeerFault id issued birth highest births OtherBirth = All (λ v. IsAbove id issued v → ⊥) highest × Any (IsOther id birth) births
