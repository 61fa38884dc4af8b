-- The numbers of a pool's frames, by their bytes.
use Rattle.std.specs.Prelude.{◌≡◌, ◌≢◌, ◌⊎◌, ℕ, Option, Some, None, List, ◌∷◌}
use Rattle.std.specs.BTreeMap.{get_by}
use Rattle.std.specs.Cmp.Lexicographic.{slice_cmp}
use Rattle.std.specs.Ordering.{nat_cmp}
use Rattle.mr_settle.specs.declared.numbers.Numbers.{Numbers}
use Rattle.mr_model.specs.Moment.{numbered}
use Rattle.mr_model.specs.Rules.{In}
use Rattle.mr_wire.specs.Grammar.{Spells}
use Rattle.mr_wire.specs.declared.frame.Frame.{Frame}

-- which number some bytes have, if they have one
abbrev pub Numbering : Type 0
Numbering = List ℕ → Option ℕ

-- which number the map has for some bytes
abbrev pub numbering : Numbers → Numbering
numbering n bytes = get_by (λ k. slice_cmp nat_cmp bytes k.items) n.by_frame

-- the number of these bytes, if there are some
abbrev pub found_in : Numbering → Option (List ℕ) → Option ℕ
found_in numbers None = None
found_in numbers (Some bytes) = numbers bytes

-- no bytes have one
abbrev pub no_numbers : Numbering
no_numbers bytes = None

-- these bytes have that number, and others what they had
pub record Puts (old : Numbering) (bytes : List ℕ) (number : ℕ) (new : Numbering) : Type 0 where
  pub is : new bytes ≡ Some number
  pub others : (other : List ℕ) → other ≢ bytes → new other ≡ old other

-- Each frame of the pool has a spelling with a number, and only those have: that of a frame which it spells.
pub record Tells {A : Type 0} (frame_of : A → Frame) (pool : List A) (numbers : Numbering) : Type 0 where
  pub found : (bytes : List ℕ) (n : ℕ) → numbers bytes ≡ Some n → (x : A) × (numbered pool n ≡ Some x) × Spells 2 (frame_of x) bytes
  pub all : (x : A) → In x pool → (bytes : List ℕ) × Spells 2 (frame_of x) bytes × (numbers bytes ≢ None)

-- the newest frame has a number: the one that it had, or the count of all
abbrev pub KeepsUp : Numbering → (newest : Option (List ℕ)) → (count : ℕ) → Numbering → Type 0
KeepsUp old None count new = new ≡ old
KeepsUp old (Some bytes) count new = ((old bytes ≢ None) × (new ≡ old)) ⊎ Puts old bytes count new

-- a pool has the same, or one more in front
abbrev pub Grew : {A : Type 0} → List A → List A → Type 0
Grew {A} old new = (new ≡ old) ⊎ ((x : A) × (new ≡ x ∷ old))
