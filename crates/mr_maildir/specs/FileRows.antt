-- worked rows of files, folders, headers and lists
use Rattle.std.specs.Prelude.{◌≡◌, ℕ, true, false, List, [], ◌∷◌, ◌++◌, codes, Some, None, refl}
use Rattle.mr_maildir.specs.Letters.{letters_with}
use Rattle.mr_maildir.specs.Folder.{is_plain}
use Rattle.mr_maildir.specs.File.{FileParts, flags_on, path_text}
use Rattle.mr_maildir.specs.FileActs.{Mail, after, acts_for, is_blocked, is_fit}
use Rattle.mr_maildir.specs.Layout.{admits, path_of, folder_path, name_at}
use Rattle.mr_maildir.specs.Header.{header_lines, field_value}
use Rattle.mr_maildir.specs.Listing.{printed_chars}
use Rattle.mr_maildir.specs.declared.layout.Layout.TheVariants.{Dots, Plain}
use Rattle.mr_maildir.specs.declared.plan.FileAct.TheVariants.{Link, Move, Remove}

-- ---- files of a mail

abbrev file : List ℕ → List ℕ → List ℕ → FileParts
file label unique letters = record { label = label; is_new = false; unique = unique; info = codes ":2," ++ letters }

abbrev new_file : List ℕ → List ℕ → FileParts
new_file label unique = record { label = label; is_new = true; unique = unique; info = [] }

-- one mail that is told the name `told`
abbrev mail : List FileParts → ℕ → Mail
mail seen flags = record { seen = seen; taken = []; flags = flags; spare = codes "told"; digits = codes "digits" }

abbrev inbox : List (List ℕ)
inbox = codes "inbox" ∷ []

abbrev inbox_and_work : List (List ℕ)
inbox_and_work = codes "inbox" ∷ codes "work" ∷ []

pub flags_of_file : flags_on (file (codes "inbox") (codes "1.a") (codes "FS")) ≡ 5
flags_of_file = refl

pub flags_of_new : flags_on (new_file (codes "inbox") (codes "1.a")) ≡ 0
flags_of_new = refl

pub path_of_file : path_text (codes ".work") (file (codes "work") (codes "1.a") (codes "S")) ≡ codes ".work/cur/1.a:2,S"
path_of_file = refl

pub path_in_the_maildir : path_text [] (new_file (codes "inbox") (codes "1.a")) ≡ codes "new/1.a"
path_in_the_maildir = refl

-- no file is seen: the store's is linked, as new mail where it has no flag
pub new_mail : acts_for (mail [] 0) inbox ≡ Link None (new_file (codes "inbox") (codes "told")) ∷ []
unfolding letters_with
new_mail = refl

pub read_elsewhere : acts_for (mail [] 1) inbox ≡ Link None (file (codes "inbox") (codes "told") (codes "S")) ∷ []
unfolding letters_with
read_elsewhere = refl

-- it is read: from `new` to `cur`, under its own name
pub now_read : acts_for (mail (new_file (codes "inbox") (codes "1.a") ∷ []) 1) inbox ≡ Move (new_file (codes "inbox") (codes "1.a")) (file (codes "inbox") (codes "1.a") (codes "S")) ∷ []
unfolding letters_with
now_read = refl

-- unread again: it stays in `cur`, and a letter that tells no flag stays too
pub unread_again : acts_for (mail (file (codes "inbox") (codes "1.a") (codes "PS") ∷ []) 0) inbox ≡ Move (file (codes "inbox") (codes "1.a") (codes "PS")) (file (codes "inbox") (codes "1.a") (codes "P")) ∷ []
unfolding letters_with
unread_again = refl

-- it stands as the view says, whatever the order of its letters
pub nothing_to_do : acts_for (mail (file (codes "inbox") (codes "1.a") (codes "SF") ∷ []) 5) inbox ≡ []
unfolding letters_with
nothing_to_do = refl

-- filed: linked first, then removed
pub filed : acts_for (mail (file (codes "inbox") (codes "1.a") (codes "S") ∷ []) 1) (codes "work" ∷ []) ≡ Link (Some (file (codes "inbox") (codes "1.a") (codes "S"))) (file (codes "work") (codes "1.a") (codes "S")) ∷ Remove (file (codes "inbox") (codes "1.a") (codes "S")) ∷ []
unfolding letters_with
filed = refl

pub filed_files : after (acts_for (mail (file (codes "inbox") (codes "1.a") (codes "S") ∷ []) 1) (codes "work" ∷ [])) (file (codes "inbox") (codes "1.a") (codes "S") ∷ []) ≡ file (codes "work") (codes "1.a") (codes "S") ∷ []
unfolding letters_with
filed_files = refl

-- copied to a second folder, and flagged: the link is made of the file as it was
pub copied_and_flagged : acts_for (mail (file (codes "inbox") (codes "1.a") [] ∷ []) 4) inbox_and_work ≡ Link (Some (file (codes "inbox") (codes "1.a") [])) (file (codes "work") (codes "1.a") (codes "F")) ∷ Move (file (codes "inbox") (codes "1.a") []) (file (codes "inbox") (codes "1.a") (codes "F")) ∷ []
unfolding letters_with
copied_and_flagged = refl

-- twice in a folder: the one that tells the flags stays
pub twice : acts_for (mail (new_file (codes "inbox") (codes "2.b") ∷ file (codes "inbox") (codes "1.a") (codes "S") ∷ []) 1) inbox ≡ Remove (new_file (codes "inbox") (codes "2.b")) ∷ []
unfolding letters_with
twice = refl

-- of no folder
pub left_the_filter : acts_for (mail (new_file (codes "inbox") (codes "1.a") ∷ []) 0) [] ≡ Remove (new_file (codes "inbox") (codes "1.a")) ∷ []
left_the_filter = refl

-- another mail's file has the name
pub taken_name : acts_for (record { seen = []; taken = file (codes "inbox") (codes "told") [] ∷ []; flags = 0; spare = codes "told"; digits = codes "digits" }) inbox ≡ Link None (new_file (codes "inbox") (codes "digits")) ∷ []
unfolding letters_with
taken_name = refl

pub taken_elsewhere : acts_for (record { seen = []; taken = file (codes "work") (codes "told") [] ∷ []; flags = 0; spare = codes "told"; digits = codes "digits" }) inbox ≡ Link None (new_file (codes "inbox") (codes "told")) ∷ []
unfolding letters_with
taken_elsewhere = refl

pub both_taken : is_blocked (record { seen = []; taken = file (codes "inbox") (codes "told") [] ∷ new_file (codes "inbox") (codes "digits") ∷ []; flags = 0; spare = codes "told"; digits = codes "digits" }) (codes "inbox") ≡ true
both_taken = refl

-- a name that can't be given again, since its letters couldn't be read
pub with_colon : is_fit (codes "1.a:1,x") ≡ false
with_colon = refl

pub with_space : is_fit (codes "1 a") ≡ true
with_space = refl

-- ---- folders

pub in_dots : path_of Dots (codes "Archive.2026") ≡ codes ".Archive.2026"
in_dots = refl

pub in_folders : path_of Plain (codes "Archive.2026") ≡ codes "Archive/2026"
in_folders = refl

pub from_folders : name_at Plain (codes "Archive/2026") ≡ Some (codes "Archive.2026")
from_folders = refl

-- a dot in a folder's own name would be a level
pub dot_in_a_level : name_at Plain (codes "lists.debian") ≡ None
dot_in_a_level = refl

-- the Maildir itself, and what is no folder of a Maildir++
pub no_name : name_at Dots [] ≡ None
no_name = refl

pub no_dot : name_at Dots (codes "work") ≡ None
no_dot = refl

pub no_level : admits Plain (codes "a..b") ≡ false
no_level = refl

pub no_last_level : admits Plain (codes "a.") ≡ false
no_last_level = refl

pub part_as_level : admits Plain (codes "a.cur") ≡ false
part_as_level = refl

pub part_in_dots : admits Dots (codes "a.cur") ≡ true
part_in_dots = refl

pub part_is_no_label : is_plain (codes "new") ≡ false
part_is_no_label = refl

pub inbox_is_the_maildir : folder_path Plain (codes "inbox") (Some (codes "x")) ≡ []
inbox_is_the_maildir = refl

pub told_of_another : folder_path Plain (codes "work") (Some (codes "play")) ≡ codes "work"
told_of_another = refl

-- ---- headers

-- `From: a`, then a subject in two lines with returns, an empty line, and another subject
abbrev letter : List ℕ
letter = codes "From: a" ++ 10 ∷ codes "SUBJECT: x" ++ 13 ∷ 10 ∷ 9 ∷ codes "y" ++ 13 ∷ 10 ∷ 13 ∷ 10 ∷ codes "Date: z"

pub lines : header_lines letter ≡ codes "From: a" ∷ (codes "SUBJECT: x" ++ 13 ∷ []) ∷ (9 ∷ codes "y" ++ 13 ∷ []) ∷ []
lines = refl

-- in capitals or not, and unfolded: the tab stays
pub subject : field_value (codes "subject:") letter ≡ codes " x" ++ 9 ∷ codes "y"
subject = refl

pub behind_the_header : field_value (codes "date:") letter ≡ []
behind_the_header = refl

-- the first field of a name counts
pub first_counts : field_value (codes "to:") (codes "To: a" ++ 10 ∷ codes "To: b") ≡ codes " a"
first_counts = refl

-- a line that goes on with nothing, and a name with more in front
pub no_field : field_value (codes "to:") (codes " to: a" ++ 10 ∷ codes "Reply-To: b") ≡ []
no_field = refl

pub no_bytes : header_lines [] ≡ []
no_bytes = refl

-- ---- lists

-- a tab, a backslash, a bell and a C1 control character
pub printed_row : printed_chars (97 ∷ 9 ∷ 92 ∷ 7 ∷ 155 ∷ []) ≡ 97 ∷ 32 ∷ 92 ∷ 92 ∷ 92 ∷ 120 ∷ 48 ∷ 55 ∷ 92 ∷ 120 ∷ 57 ∷ 98 ∷ []
printed_row = refl

-- other characters come out as they are
pub printed_accent : printed_chars (233 ∷ 8364 ∷ 128512 ∷ []) ≡ 233 ∷ 8364 ∷ 128512 ∷ []
printed_accent = refl
