-- files that go
use Rattle.std.specs.Prelude.{◌≡◌, ◌<◌, ◌≤◌, ◌-◌, ℕ, List, [], length, take, drop}
use Rattle.mr_talk.specs.Said.{Said}
use Rattle.mr_talk.specs.declared.kind.Kind.{Kind}
use Rattle.mr_talk.specs.declared.kind.Kind.TheVariants as kind

-- of a file of which so many bytes are told the next ones are told, up to new; or its end, once all are
abbrev pub TellsNext : Kind → (bytes : List ℕ) → (told : ℕ) → List ℕ → ℕ → Type 0
TellsNext kind.Piece bytes told piece new = (told < new) × (new ≤ length bytes) × (piece ≡ take (new - told) (drop told bytes))
TellsNext kind.End bytes told piece new = (told ≡ length bytes) × (piece ≡ []) × (new ≡ told)
TellsNext other bytes told piece new = ⊥

abbrev pub GoesOn : (bytes : List ℕ) → (told new : ℕ) → Said → Type 0
GoesOn bytes told new message = TellsNext message.kind bytes told message.bytes new
