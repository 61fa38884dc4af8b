-- paths that stay inside their folder
use Rattle.std.specs.Prelude.{◌≡◌, ◌≢◌, ◌<◌, ℕ, List, [], ◌∷◌, ◌++◌, length, codes}
use Rattle.std.specs.List.{AllByRecursion, AllPass, before_first}
use Rattle.std.specs.Prelude.{Bool, not, ◌==◌, ◌&&◌}
use Rattle.hex.specs.Hex.{encode_lower}
use Rattle.mr_folder.specs.declared.path.Part.{Part}
use Rattle.mr_folder.specs.declared.path.Part.TheVariants.{Cur, New}

-- neither `/` nor NUL
abbrev pub is_part_byte : ℕ → Bool
is_part_byte b = not (b == 47) && not (b == 0)

-- it names something in a folder, and neither the folder nor the one above
pub record IsPart (text : List ℕ) : Type 0 where
  pub something : 0 < length text
  pub bytes : AllPass is_part_byte text
  pub not_here : text ≢ codes "."
  pub not_above : text ≢ codes ".."

-- parts with `/` between them
abbrev pub joined : List ℕ → List (List ℕ) → List ℕ
joined first [] = first
joined first (next ∷ more) = first ++ 47 ∷ joined next more

-- a path of parts, which leads to no place outside the folder that it starts from
pub record IsInside (path : List ℕ) : Type 0 where
  pub first : List ℕ
  pub more : List (List ℕ)
  pub first_is : IsPart first
  pub more_are : AllByRecursion IsPart more
  pub path_is : path ≡ joined first more

-- where a mail is while it comes in, and where the mail of a digest is kept
abbrev pub draft_path : List ℕ
draft_path = codes ".mailfold/tmp/draft"

abbrev pub stored_path : List ℕ → List ℕ
stored_path digest = codes ".mailfold/files/" ++ encode_lower digest

-- a path's first part, and that of the files which are the program's own
abbrev pub first_part : List ℕ → List ℕ
first_part path = before_first (λ b. b == 47) path

abbrev pub own_folder : List ℕ
own_folder = codes ".mailfold"

-- a folder of the Maildir: with no path the Maildir itself, else one inside it that isn't the program's own
abbrev pub IsFolder : List ℕ → Type 0
IsFolder [] = Unit {0}
IsFolder (b ∷ rest) = IsInside (b ∷ rest) × (first_part (b ∷ rest) ≢ own_folder)

abbrev pub part_name : Part → List ℕ
part_name Cur = codes "cur"
part_name New = codes "new"

-- where a mail of this name stands in a part of a folder
abbrev pub mail_path : List ℕ → Part → List ℕ → List ℕ
mail_path [] part name = part_name part ++ 47 ∷ name
mail_path (b ∷ rest) part name = (b ∷ rest) ++ 47 ∷ (part_name part ++ 47 ∷ name)
