-- what a scan has found
use Rattle.std.specs.Prelude.{ℕ, ◌+◌, ◌-◌, ◌^◌, Bool, true, false, not, if◌then◌else◌, List, [], ◌∷◌, ◌++◌, Option, Some, None, min}
use Rattle.std.specs.Global.{Vec}
use Rattle.std.specs.Map.{lookup}
use Rattle.std.specs.Ordering.{is_eq}
use Rattle.std.specs.Str.{bytes_eq}
use Rattle.mr_mail.specs.Label.{text_cmp}
use Rattle.mr_maildir.specs.File.{FileParts}
use Rattle.mr_scan.specs.declared.scanned.Sight.{Sight}
use Rattle.mr_scan.specs.declared.scanned.Sight.TheVariants.{Stored, Adopted, Gone, NoFile}

-- the items of a list, if there is one
abbrev pub items_of : {X : Type 0} → Option (Vec X) → List X
items_of None = []
items_of (Some xs) = xs.items

-- the files that a table has of a mail
abbrev pub files_at : List (List ℕ × Vec FileParts) → List ℕ → List FileParts
files_at mails digest = items_of (lookup (λ own. is_eq (text_cmp digest own)) mails)

-- these files, and one more if it is theirs
abbrev pub files_with : Bool → FileParts → List FileParts → List FileParts
files_with is_theirs file files = if is_theirs then files ++ file ∷ [] else files

-- the files of a mail, once it is noted what a name is
abbrev pub files_noted : Sight → FileParts → List ℕ → List FileParts → List FileParts
files_noted (Stored mail) file digest files = files_with (is_eq (text_cmp mail digest)) file files
files_noted (Adopted mail) file digest files = files_with (is_eq (text_cmp mail digest)) file files
files_noted Gone file digest files = files
files_noted NoFile file digest files = files

abbrev pub is_gone : Sight → Bool
is_gone (Stored mail) = false
is_gone (Adopted mail) = false
is_gone Gone = true
is_gone NoFile = false

abbrev pub is_no_file : Sight → Bool
is_no_file (Stored mail) = false
is_no_file (Adopted mail) = false
is_no_file Gone = false
is_no_file NoFile = true

abbrev pub is_adopted : Sight → Bool
is_adopted (Stored mail) = false
is_adopted (Adopted mail) = true
is_adopted Gone = false
is_adopted NoFile = false

-- what was read of a mail's file is another mail
abbrev pub is_other_mail : Sight → List ℕ → Bool
is_other_mail (Stored mail) digest = false
is_other_mail (Adopted mail) digest = not (bytes_eq mail digest)
is_other_mail Gone digest = false
is_other_mail NoFile digest = false

-- one more where it counts, up to the most that fits
abbrev pub counted : Bool → ℕ → ℕ
counted counts n = if counts then min (n + 1) (2 ^ 64 - 1) else n
