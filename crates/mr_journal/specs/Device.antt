-- what the calls of a device do to its bytes, and what a crash may make of them
use Rattle.std.specs.Prelude.{◌≡◌, ◌⊎◌, ℕ, ◌+◌, ◌-◌, ◌<◌, ◌≤◌, min, max, Bool, IsTrue, List, ◌++◌, length, take, drop, slice_index, Result, MatchResult}

-- a file with these bytes written over it at a place
abbrev pub overwritten : List ℕ → ℕ → List ℕ → List ℕ
overwritten file at bytes = take at file ++ (bytes ++ drop (at + length bytes) file)

-- the byte at i is as it was, or is the one that was written there
abbrev pub IsOldOrWritten : ℕ → List ℕ → List ℕ → List ℕ → ℕ → Type 0
IsOldOrWritten at bytes old new i =
    (slice_index new i ≡ slice_index old i) ⊎ ((at ≤ i) × (i < at + length bytes) × (slice_index new i ≡ slice_index bytes (i - at)))

-- What a crash may make of a write: below the old end each byte is the old or the written one, past it there may be anything,
-- as far as the write goes.
pub record Torn (at : ℕ) (bytes old new : List ℕ) : Type 0 where
  pub no_shorter : length old ≤ length new
  pub no_longer : length new ≤ max (length old) (at + length bytes)
  pub each : (i : ℕ) → i < length old → IsOldOrWritten at bytes old new i

-- What a crash may make of a cut: some length between, and the same bytes.
pub record Cut (len : ℕ) (old new : List ℕ) : Type 0 where
  pub no_shorter : min len (length old) ≤ length new
  pub front : new ≡ take (length new) old

-- each thing that may be left now is one that might have been left before, after a step
abbrev pub Follows : (List ℕ → List ℕ → Type 0) → (List ℕ → Type 0) → (List ℕ → Type 0) → Type 0
Follows step before now = (c : List ℕ) → now c → (d : List ℕ) × before d × step d c

-- a crash leaves this file and no other
abbrev pub Only : List ℕ → (List ℕ → Type 0) → Type 0
Only file may_leave = (c : List ℕ) → may_leave c → c ≡ file

-- Time passes: a crash since t left what it might have left before, or what it may leave now, and all that counts.
pub record Passes (before now : ℕ) (old_since new_since : ℕ → List ℕ → Type 0) (may_leave : List ℕ → Type 0) : Type 0 where
  pub later : before ≤ now
  pub no_more : (t : ℕ) (c : List ℕ) → t ≤ before → new_since t c → old_since t c ⊎ may_leave c
  pub no_less : (t : ℕ) (c : List ℕ) → t ≤ before → old_since t c → new_since t c

-- an error is told only where the device has failed
abbrev pub HasCause : {T E : Type 0} → Result T E → Bool → Bool → Type 0
HasCause result before now = MatchResult result (λ _. now ≡ before) (λ _. IsTrue now)

-- a crash at any moment from the old state to the new one leaves a file that has P
pub record LeavesOnly {D : Type 0} (moment : D → ℕ) (left_since : D → ℕ → List ℕ → Type 0) (old new : D) (P : List ℕ → Type 0) : Type 0 where
  pub later : moment old ≤ moment new
  pub each : (c : List ℕ) → left_since new (moment old) c → P c
  -- for a run that began earlier
  pub before : (t : ℕ) (c : List ℕ) → t ≤ moment old → left_since new t c → left_since old t c ⊎ P c

-- the calls between two states wrote nothing: the bytes are the same, and a crash left what it might have left before
pub record IsUntouched {D : Type 0} (seen : D → List ℕ) (may_leave : D → List ℕ → Type 0) (moment : D → ℕ) (left_since : D → ℕ → List ℕ → Type 0) (old new : D) : Type 0 where
  pub same : seen new ≡ seen old
  pub no_more : (c : List ℕ) → may_leave new c → may_leave old c
  pub moments : LeavesOnly moment left_since old new (may_leave old)

-- the device has this file, all of it so that a crash leaves it
pub record Rests {D : Type 0} (seen : D → List ℕ) (may_leave : D → List ℕ → Type 0) (file : List ℕ) (device : D) : Type 0 where
  pub file_is : seen device ≡ file
  pub durable : Only file (may_leave device)
