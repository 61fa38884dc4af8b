-- the names of a folder's logs
use Rattle.std.specs.Prelude.{ℕ, List, ◌++◌, codes}
use Rattle.std.specs.Fmt.{decimal}

-- the path of a file that the program keeps in the folder of this path
abbrev pub inside : List ℕ → List ℕ → List ℕ
inside root name = root ++ (codes "/.mailfold/" ++ name)

-- the name of the old log of this number
abbrev pub old_name : ℕ → List ℕ
old_name number = codes "log." ++ decimal number
