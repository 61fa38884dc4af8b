-- the rows to which the longer marks go
use Rattle.std.specs.Prelude.{◌≡◌, ℕ, ◌+◌, ◌<◌, ◌≤◌, ◌==◌, ◌&&◌, if◌then◌else◌, Bool, true, false, unwrap_or, length, List, [], ◌∷◌, Option, Some, None}
use Rattle.std.specs.Option.{option_or}
use Rattle.mr_draw.specs.Happened.{Happened}
use Rattle.mr_draw.specs.declared.happening.Kind.{Kind}
use Rattle.mr_draw.specs.declared.happening.Kind.TheVariants.{Issue, TakeItem, TakeMoveOut, TakeOther, Open}

-- whether a record of the stream was taken
abbrev pub is_of_stream : (source stream : ℕ) → Kind → Bool
is_of_stream source stream (TakeItem by number v) = (by == source) && (number == stream)
is_of_stream source stream (TakeMoveOut by number v) = (by == source) && (number == stream)
is_of_stream source stream (TakeOther by number) = (by == source) && (number == stream)
is_of_stream source stream other = false

-- the row of the last record of the stream that was taken, the first of these being in the row n
abbrev pub last_of_stream : (source stream n : ℕ) → List Happened → Option ℕ
last_of_stream source stream n [] = None
last_of_stream source stream n (h ∷ hs) =
    option_or (last_of_stream source stream (n + 1) hs) (if is_of_stream source stream h.kind then Some n else None)

-- a push-out goes to its own row or to a later one
abbrev pub IsWithin : List Happened → (row last_row : ℕ) → Type 0
IsWithin shown row last_row = (row ≤ last_row) × (last_row < length shown)

-- A version goes to its own row, unless it is a push-out.
abbrev pub DotEnds : List Happened → (row : ℕ) → (is_push_out : Bool) → (last_row : ℕ) → Type 0
DotEnds shown row true last_row = IsWithin shown row last_row
DotEnds shown row false last_row = last_row ≡ row

-- A sync's band goes to the last record that was taken, and all else but a version to its own row.
abbrev pub EndsAs : List Happened → (row lane : ℕ) → Kind → (is_push_out : Bool) → (last_row : ℕ) → Type 0
EndsAs shown row lane (Issue v) is_push_out last_row = DotEnds shown row is_push_out last_row
EndsAs shown row lane (Open target stream) is_push_out last_row = last_row ≡ unwrap_or (last_of_stream lane stream 0 shown) row
EndsAs shown row lane other is_push_out last_row = last_row ≡ row
