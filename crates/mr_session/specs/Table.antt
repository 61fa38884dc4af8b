-- tables of what is open, each under a number of its own
use Rattle.std.specs.Prelude.{◌≤◌, ◌<◌, ℕ, not, ◌+◌, ◌==◌, if◌then◌else◌, List, [], ◌∷◌, ◌++◌, map, filter, length, Option, Some, None}
use Rattle.mr_session.specs.declared.limits.TheConstants.{MAX_OPEN}

-- a value under its number
pub record Numbered (T : Type 0) : Type 0 where
  pub number : ℕ
  pub value : T

-- how many were ever opened, and which of them are open, by rising number
pub record Table (T : Type 0) : Type 0 where
  pub opened : ℕ
  pub open_ones : List (Numbered T)

module _ {T : Type 0} where
  -- what is under the number
  abbrev pub at : List (Numbered T) → ℕ → Option T
  at [] n = None
  at (x ∷ xs) n = if x.number == n then Some x.value else at xs n

  -- what is open under the number
  abbrev pub open_at : Table T → ℕ → Option T
  open_at table n = at table.open_ones n

  -- the numbers that are open
  abbrev pub open_numbers : Table T → List ℕ
  open_numbers table = map (λ x. x.number) table.open_ones

  -- nothing was ever opened
  abbrev pub empty_table : Table T
  empty_table = record { opened = 0; open_ones = [] }

  -- one more is open, under the next number
  abbrev pub with_opened : Table T → T → Table T
  with_opened table value = record { opened = table.opened + 1; open_ones = table.open_ones ++ (record { number = table.opened + 1; value = value }) ∷ [] }

  -- the one of that number is closed
  abbrev pub with_closed : Table T → ℕ → Table T
  with_closed table n = record table { open_ones = filter (λ x. not (x.number == n)) table.open_ones }

  -- the value, changed where it is under the number
  abbrev pub changed : ℕ → (T → T) → Numbered T → Numbered T
  changed n change x = if x.number == n then record { number = n; value = change x.value } else x

  -- the one of that number is changed
  abbrev pub with_changed : ℕ → (T → T) → Table T → Table T
  with_changed n change table = record table { open_ones = map (changed n change) table.open_ones }

  -- the numbers rise, and are above low
  abbrev pub RisesFrom : (low : ℕ) → List (Numbered T) → Type 0
  RisesFrom low [] = Unit {0}
  RisesFrom low (x ∷ xs) = (low < x.number) × RisesFrom x.number xs

  -- each number is at most this
  abbrev pub AreNumberedTo : (last : ℕ) → List (Numbered T) → Type 0
  AreNumberedTo last [] = Unit {0}
  AreNumberedTo last (x ∷ xs) = (x.number ≤ last) × AreNumberedTo last xs

-- numbers begin at 1 and rise to the last one given, and no more are open than may be
pub record IsTable {T : Type 0} (table : Table T) : Type 0 where
  pub rising : RisesFrom 0 table.open_ones
  pub given : AreNumberedTo table.opened table.open_ones
  pub few : length table.open_ones ≤ MAX_OPEN
