-- files by their paths, what calls do to them, and what a crash may make of them
use Rattle.std.specs.Prelude.{◌≡◌, ◌≢◌, ◌⊎◌, ℕ, ◌≤◌, List, Option, None, is_some}

-- the bytes of the file at each path; none where there is no file
abbrev pub Tree : Type 0
Tree = List ℕ → Option (List ℕ)

-- at each path but this one there is what there was
abbrev pub OnlyAt : List ℕ → Tree → Tree → Type 0
OnlyAt path old new = (other : List ℕ) → other ≢ path → new other ≡ old other

-- What a call, or a crash, may make of a file that gets another path: each of the two paths is as before or as after.
pub record MayMove (from to : List ℕ) (old new : Tree) : Type 0 where
  pub source : (new from ≡ old from) ⊎ (new from ≡ None)
  pub target : (new to ≡ old to) ⊎ (new to ≡ old from)
  pub only : (other : List ℕ) → other ≢ from → other ≢ to → new other ≡ old other

-- What a call, or a crash, may make of a file that gets one more path: that path is as before, or the file is there too, where none was.
pub record MayLink (from to : List ℕ) (old new : Tree) : Type 0 where
  pub target : (new to ≡ old to) ⊎ ((old to ≡ None) × (new to ≡ old from))
  pub only : OnlyAt to old new

-- what a call, or a crash, may make of a file that goes: its path is as before or as after
pub record MayGo (path : List ℕ) (old new : Tree) : Type 0 where
  pub place : (new path ≡ old path) ⊎ (new path ≡ None)
  pub only : OnlyAt path old new

-- a tree that might have been left before, after a step
abbrev pub Stepped : (Tree → Tree → Type 0) → (Tree → Type 0) → Tree → Type 0
Stepped step before c = (d : Tree) × before d × step d c

-- each tree that may be left now is one that might have been left before, after a step
abbrev pub Follows : (Tree → Tree → Type 0) → (Tree → Type 0) → (Tree → Type 0) → Type 0
Follows step before now = (c : Tree) → now c → Stepped step before c

-- whatever a crash leaves, there is no file at this path, or one of these bytes
abbrev pub NoneOr : List ℕ → Option (List ℕ) → (Tree → Type 0) → Type 0
NoneOr path bytes may_leave = (c : Tree) → may_leave c → (c path ≡ None) ⊎ (c path ≡ bytes)

-- whatever a crash leaves, there is a file at this path exactly where this tree has one
abbrev pub HasSame : List ℕ → Tree → (Tree → Type 0) → Type 0
HasSame path tree may_leave = (c : Tree) → may_leave c → is_some (c path) ≡ is_some (tree path)

-- Time passes: a crash since t left what it might have left before, or what it may leave now, and all that counts.
pub record Passes (before now : ℕ) (old_since new_since : ℕ → Tree → Type 0) (may_leave : Tree → Type 0) : Type 0 where
  pub later : before ≤ now
  pub no_more : (t : ℕ) (c : Tree) → t ≤ before → new_since t c → old_since t c ⊎ may_leave c
  pub no_less : (t : ℕ) (c : Tree) → t ≤ before → old_since t c → new_since t c

-- a crash at any moment from the old state to the new one leaves a tree that has P
pub record LeavesOnly {F : Type 0} (moment : F → ℕ) (left_since : F → ℕ → Tree → Type 0) (old new : F) (P : Tree → Type 0) : Type 0 where
  pub later : moment old ≤ moment new
  pub each : (c : Tree) → left_since new (moment old) c → P c
  -- for a run that began earlier
  pub before : (t : ℕ) (c : Tree) → t ≤ moment old → left_since new t c → left_since old t c ⊎ P c

-- the call wrote nothing: the files are the same, and a crash left what it might have left before
pub record IsUntouched {F : Type 0} (seen : F → Tree) (may_leave : F → Tree → Type 0) (moment : F → ℕ) (left_since : F → ℕ → Tree → Type 0) (old new : F) : Type 0 where
  pub same : seen new ≡ seen old
  pub no_more : (c : Tree) → may_leave new c → may_leave old c
  pub moments : LeavesOnly moment left_since old new (may_leave old)

-- Each tree that a crash leaves in the new state, or left at a moment from the old state to it, is one that it might have left in the old
-- state, after this step. So a file that the step doesn't change is as safe as it was.
pub record LeavesAfter {F : Type 0} (step : Tree → Tree → Type 0) (may_leave : F → Tree → Type 0) (moment : F → ℕ) (left_since : F → ℕ → Tree → Type 0) (old new : F) : Type 0 where
  pub crash : Follows step (may_leave old) (may_leave new)
  pub moments : LeavesOnly moment left_since old new (Stepped step (may_leave old))

-- At this path there is what there was, and a crash leaves there, or left there at a moment between, what it might have left before.
pub record KeepsAt {F : Type 0} (seen : F → Tree) (may_leave : F → Tree → Type 0) (moment : F → ℕ) (left_since : F → ℕ → Tree → Type 0) (path : List ℕ) (old new : F) : Type 0 where
  pub same : seen new path ≡ seen old path
  pub after : LeavesAfter (λ before now. now path ≡ before path) may_leave moment left_since old new
