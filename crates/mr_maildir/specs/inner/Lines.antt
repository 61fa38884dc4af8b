-- what private functions promise of the lines of a mail's body
use Rattle.std.specs.Prelude.{ℕ, Bool, false, List, [], ◌∷◌, Option, None, is_some}
use Rattle.mr_maildir.specs.Lines.{folder_in, is_counts_line, name_in}

-- the name that the first of some lines tells
abbrev pub first_name : List (List ℕ) → Option (List ℕ)
first_name [] = None
first_name (line ∷ lines) = name_in line

-- whether the first line tells a folder, or counts
abbrev pub begins_folder : List (List ℕ) → Bool
begins_folder [] = false
begins_folder (line ∷ lines) = is_some (folder_in line)

abbrev pub begins_counts : List (List ℕ) → Bool
begins_counts [] = false
begins_counts (line ∷ lines) = is_counts_line line
