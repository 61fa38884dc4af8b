-- lines that tell of a mail's file
use Rattle.std.specs.Prelude.{ℕ, ◌==◌, nat_eq, if◌then◌else◌, List, [], ◌∷◌, ◌++◌, codes, length, drop, Option, Some, None}
use Rattle.std.specs.List.{starts_with}
use Rattle.mr_maildir.specs.Name.{is_safe_name}
use Rattle.mr_maildir.specs.Folder.{is_safe_folder}

-- the lines of a text behind the begun one, each ended by a newline; what stands behind the last newline is no line
abbrev pub lines_behind : List ℕ → List ℕ → List (List ℕ)
lines_behind begun [] = []
lines_behind begun (b ∷ rest) = if b == 10 then begun ∷ lines_behind [] rest else lines_behind (begun ++ b ∷ []) rest

abbrev pub lines_of : List ℕ → List (List ℕ)
lines_of text = lines_behind [] text

-- what stands behind the key on a line that begins with it
abbrev pub behind_key : List ℕ → List ℕ → Option (List ℕ)
behind_key key line = if starts_with nat_eq line key then Some (drop (length key) line) else None

-- what the first line with the key tells
abbrev pub first_told : List ℕ → List (List ℕ) → Option (List ℕ)
first_told key [] = None
first_told key (line ∷ lines) = if starts_with nat_eq line key then Some (drop (length key) line) else first_told key lines

abbrev pub told_by : List ℕ → List ℕ → Option (List ℕ)
told_by key text = first_told key (lines_of text)

-- what a line of the file's name begins with, and one of the name of a label's folder
abbrev pub name_key : List ℕ
name_key = codes "name "

abbrev pub folder_key : List ℕ → List ℕ
folder_key label = codes "folder " ++ (label ++ 32 ∷ [])

-- one more line in front of the others
abbrev pub with_line : List ℕ → List ℕ → List ℕ → List ℕ
with_line key value lines = key ++ (value ++ 10 ∷ lines)

-- the lines with the file's name told, if it may be taken from others
abbrev pub with_name : List ℕ → List ℕ → List ℕ
with_name name lines = if is_safe_name name then with_line name_key name lines else lines

-- the lines with the name of the label's folder told, if it may be taken from others
abbrev pub with_folder : List ℕ → List ℕ → List ℕ → List ℕ
with_folder label name lines = if is_safe_folder name then with_line (folder_key label) name lines else lines
