-- words and bytes of a frame line
use Rattle.std.specs.Prelude.{◌≡◌, ℕ, List, ◌++◌, Option, Some, None, Result, Ok, Err, codes}
use Rattle.std.specs.List.{flat_map}
use Rattle.hex.specs.declared.error.FromHexError.{FromHexError}

-- words with a space before each
abbrev pub after_spaces : List (List ℕ) → List ℕ
after_spaces words = flat_map (λ word. codes " " ++ word) words

-- the bytes are given, or not where the word spells none
abbrev pub GivesBytes : Result (List ℕ) FromHexError → Option (List ℕ) → Type 0
GivesBytes (Ok bytes) found = found ≡ Some bytes
GivesBytes (Err fault) found = found ≡ None
