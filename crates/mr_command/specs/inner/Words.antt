-- the rest of a line
use Rattle.std.specs.Prelude.{ℕ, List, Option}
use Rattle.std.specs.Borrow.{Bor}
use Rattle.mr_command.specs.inner.List.{parts_left}

-- the words of what is left of a line, which is nothing once its last word was taken
abbrev pub words_left : Option (Bor (List ℕ)) → List (List ℕ)
words_left rest = parts_left 32 rest
