-- mails whose files were edited in place
use Rattle.std.specs.Prelude.{ℕ, ◌-◌, Bool, false, not, ◌==◌, ◌&&◌, if◌then◌else◌, List, filter, length, map, slice_get, Option, Some, None, option_map}
use Rattle.std.specs.Map.{lookup}
use Rattle.std.specs.Ordering.{is_eq, nat_cmp}
use Rattle.mr_mail.specs.Label.{text_cmp}
use Rattle.mr_scan.specs.declared.inodes.Stored.{Stored}
use Rattle.mr_scan.specs.declared.inodes.StoreFile.{StoreFile}

abbrev pub mail_of : StoreFile → Stored
mail_of file = file.mail

abbrev pub digest_of : StoreFile → List ℕ
digest_of file = file.mail.digest

-- whether another size is known than this one
abbrev pub is_other : Option ℕ → ℕ → Bool
is_other None size = false
is_other (Some told) size = not (told == size)

-- whether a file has another size than is told of its mail
abbrev pub is_spoiled : List (List ℕ × ℕ) → StoreFile → Bool
is_spoiled sizes file = is_other (lookup (λ own. is_eq (text_cmp file.mail.digest own)) sizes) file.mail.size

-- the digests of the mails of those of these files
abbrev pub spoiled_of : List (List ℕ × ℕ) → List StoreFile → List (List ℕ)
spoiled_of sizes files = map digest_of (filter (is_spoiled sizes) files)

-- the others
abbrev pub whole_of : List (List ℕ × ℕ) → List StoreFile → List StoreFile
whole_of sizes files = filter (λ file. not (is_spoiled sizes file)) files

-- what an index has of an inode
abbrev pub at_inode : List (ℕ × Stored) → ℕ → Option Stored
at_inode entries inode = lookup (λ own. is_eq (nat_cmp inode own)) entries

abbrev pub has_inode : ℕ → StoreFile → Bool
has_inode inode file = is_eq (nat_cmp file.inode inode)

-- the last one of a list
abbrev pub last_of : List StoreFile → Option StoreFile
last_of files = slice_get files (length files - 1)

-- the mail of the last of these files that has the inode
abbrev pub last_at : ℕ → List StoreFile → Option Stored
last_at inode files = option_map mail_of (last_of (filter (has_inode inode) files))

-- what an index has of an inode, with one file more, unless that is spoiled
abbrev pub with_file : Bool → StoreFile → ℕ → Option Stored → Option Stored
with_file spoiled file inode before = if not spoiled && has_inode inode file then Some file.mail else before
