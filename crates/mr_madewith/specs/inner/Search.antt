-- where a search by name ends in a list in the order of the names
use Rattle.std.specs.Prelude.{◌≡◌, ◌<◌, ◌≤◌, ℕ, None, List, length, insert, remove, slice_get, slice_set}
use Rattle.mr_version.specs.Name.{Name}
use Rattle.mr_madewith.specs.Keyed.{named, without, inserted}

module _ {X : Type 0} (name : X → Name) (v : Name) (xs : List X) where
  -- the one of the name v is at place i
  pub record IsFoundAt (i : ℕ) : Type 0 where
    pub within : i < length xs
    pub is : named name v xs ≡ slice_get xs i
    pub out : remove xs i ≡ without name v xs
    pub over : (x : X) → name x ≡ v → slice_set xs i x ≡ inserted name x (without name v xs)

  -- there is none of the name v, and one would go to place i
  pub record IsGapFor (i : ℕ) : Type 0 where
    pub within : i ≤ length xs
    pub none : named name v xs ≡ None
    pub all : without name v xs ≡ xs
    pub put : (x : X) → name x ≡ v → insert xs i x ≡ inserted name x xs
