-- what waits in a tap
use Rattle.std.specs.Prelude.{◌≡◌, ℕ, List, ◌++◌, length}
use Rattle.mr_lane.specs.declared.piece.Piece.{Piece}

module _ {T : Type 0} where
  -- ---- below the ends

  -- at one moment this many waited: the last of these
  abbrev pub EndsWithWaiting : List (Piece T) → ℕ → Type 0
  EndsWithWaiting offered count = (waiting : List (Piece T)) × (length waiting ≡ count) × ((gone : List (Piece T)) × (offered ≡ gone ++ waiting))
