-- what stands behind the kind, while it is read
use Rattle.std.specs.Prelude.{◌≡◌, ℕ, List, Option, Some, None}
use Rattle.mr_version.specs.Name.{Name}
use Rattle.mr_wire.specs.Values.{Piece, least_item}
use Rattle.mr_wire.specs.Reading.{Reader, Stands, run_at}
use Rattle.mr_wire.specs.FrameParts.{asked_at, next_asked}

abbrev pub FindsAsked : Option (Option Name) → List ℕ → Option (Option Piece × Option Name) → List ℕ → Type 0
FindsAsked before old None new = asked_at before old ≡ None
FindsAsked before old (Some found) new = Stands (λ (f : Piece). f) (asked_at before) old found.0 new (λ f. found.1 ≡ least_item f.items)

-- so many fragments, in their order
abbrev pub asked_run : ℕ → Reader (List Piece)
asked_run = run_at asked_at next_asked None
