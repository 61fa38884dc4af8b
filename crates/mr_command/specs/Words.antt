-- the words of a line
use Rattle.std.specs.Prelude.{ℕ, ◌==◌, List}
use Rattle.std.specs.List.{slice_split, join_with_byte}

-- the parts of a text between its spaces
abbrev pub words : List ℕ → List (List ℕ)
words text = slice_split (λ b. b == 32) text

-- words with a space between each two
abbrev pub unwords : List (List ℕ) → List ℕ
unwords ws = join_with_byte 32 ws
