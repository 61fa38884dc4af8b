-- what tells the place of a journal
use Rattle.std.specs.Prelude.{ℕ, List, ◌∷◌, ◌++◌}
use Rattle.std.specs.Fmt.{decimal}

-- the machine's id and the number of the journal's inode, with a space between them
abbrev pub mark_text : List ℕ → ℕ → List ℕ
mark_text machine inode = machine ++ (32 ∷ decimal inode)
