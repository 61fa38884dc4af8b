-- the rest of a word that is a list
use Rattle.std.specs.Prelude.{ℕ, List, [], Option, Some, None}
use Rattle.std.specs.Borrow.{Bor}
use Rattle.mr_command.specs.List.{parts_of}

-- the parts of what is left of a word, which is nothing once its last part was taken
abbrev pub parts_left : ℕ → Option (Bor (List ℕ)) → List (List ℕ)
parts_left separator None = []
parts_left separator (Some rest) = parts_of separator rest.now
