-- what is done with the files of a mail, so that they stand as a view says
use Rattle.std.specs.Prelude.{ℕ, Bool, true, false, not, ◌==◌, ◌&&◌, ◌||◌, nat_le, IsTrue, if◌then◌else◌, List, [], ◌∷◌, ◌++◌, length, map, filter, fold, find, slice_get, slice_index, Option, Some, None}
use Rattle.std.specs.List.{list_all, list_any, flat_map}
use Rattle.hex.specs.Hex.{encode_lower}
use Rattle.mr_mail.specs.Label.{text_eq, has_label}
use Rattle.mr_maildir.specs.Letters.{letters_with}
use Rattle.mr_maildir.specs.Name.{unique_for}
use Rattle.mr_maildir.specs.Path.{is_path_byte}
use Rattle.mr_maildir.specs.File.{FileParts, letters_on, flags_on, file_eq, has_file}
use Rattle.mr_maildir.specs.declared.plan.FileAct.{FileAct}
use Rattle.mr_maildir.specs.declared.plan.FileAct.TheVariants.{Link, Move, Remove}
use Rattle.mr_maildir.specs.declared.plan.FileFault.{FileFault}
use Rattle.mr_maildir.specs.declared.plan.FileFault.TheVariants.{OutOfMemory, NameTaken}

-- ---- what acts do

abbrev pub without : FileParts → List FileParts → List FileParts
without file files = filter (λ f. not (file_eq file f)) files

-- the files once an act is done
abbrev pub done : List FileParts → FileAct → List FileParts
done files (Link from to) = files ++ to ∷ []
done files (Move from to) = without from files ++ to ∷ []
done files (Remove file) = without file files

-- the files once these acts are done in turn
abbrev pub after : List FileAct → List FileParts → List FileParts
after acts files = fold done files acts

-- whether the act makes this file, and whether it takes it away
abbrev pub makes : FileParts → FileAct → Bool
makes file (Link from to) = file_eq file to
makes file (Move from to) = file_eq file to
makes file (Remove gone) = false

abbrev pub takes : FileParts → FileAct → Bool
takes file (Link from to) = false
takes file (Move from to) = file_eq from file
takes file (Remove gone) = file_eq gone file

abbrev pub touches : FileParts → FileAct → Bool
touches file act = makes file act || takes file act

-- ---- what is wanted

-- one mail: its files that are seen, the files of other mails, the flags that it should have, and two names for files
-- that are made: one of its own, and the digits of its digest
pub record Mail : Type 0 where
  pub seen : List FileParts
  pub taken : List FileParts
  pub flags : ℕ
  pub spare : List ℕ
  pub digits : List ℕ

abbrev pub tells : ℕ → FileParts → Bool
tells flags file = flags_on file == flags

abbrev pub or_else : Option FileParts → Option FileParts → Option FileParts
or_else None other = other
or_else (Some file) other = Some file

-- the first file of the folder, and the first of them that tells the flags
abbrev pub first_in : Mail → List ℕ → Option FileParts
first_in mail label = find (λ f. text_eq f.label label) mail.seen

abbrev pub telling_in : Mail → List ℕ → Option FileParts
telling_in mail label = find (λ f. text_eq f.label label && tells mail.flags f) mail.seen

-- the file of the folder that is kept: one that tells the flags, or else the first
abbrev pub kept_in : Mail → List ℕ → Option FileParts
kept_in mail label = or_else (telling_in mail label) (first_in mail label)

-- a name that may be given again: 1 to 200 bytes, no control character, `/` or colon, and no leading dot
abbrev pub is_fit_byte : ℕ → Bool
is_fit_byte b = is_path_byte b && not (b == 58)

abbrev pub is_fit : List ℕ → Bool
is_fit text = nat_le 1 (length text) && nat_le (length text) 200 && not (slice_index text 0 == 46) && list_all is_fit_byte text

-- the mail's own name, where a file is made of this one: what is unique of it, where that is fit, or else the spare one
abbrev pub own_name : Mail → Option FileParts → List ℕ
own_name mail None = mail.spare
own_name mail (Some file) = if is_fit file.unique then file.unique else mail.spare

-- whether another mail's file in the folder has this name
abbrev pub is_taken : List FileParts → List ℕ → List ℕ → Bool
is_taken taken label unique = list_any (λ f. text_eq f.label label && text_eq f.unique unique) taken

-- the name that a file gets in the folder
abbrev pub name_in : Mail → List ℕ → Option FileParts → List ℕ
name_in mail label source = if is_taken mail.taken label (own_name mail source) then mail.digits else own_name mail source

abbrev pub letters_from : Option FileParts → List ℕ
letters_from None = []
letters_from (Some file) = letters_on file

abbrev pub is_from_new : Option FileParts → Bool
is_from_new None = true
is_from_new (Some file) = file.is_new

-- a file with these letters: in `new` where there is none and the mail is new, else in `cur`
abbrev pub placed : List ℕ → List ℕ → List ℕ → Bool → FileParts
placed label unique letters new =
    if (length letters == 0) && new then record { label = label; is_new = true; unique = unique; info = [] }
    else record { label = label; is_new = false; unique = unique; info = 58 ∷ 50 ∷ 44 ∷ letters }

-- the file that is put into the folder, made of this one, or of the store's
abbrev pub put_in : Mail → List ℕ → Option FileParts → FileParts
put_in mail label source = placed label (name_in mail label source) (letters_with (letters_from source) mail.flags) (is_from_new source)

-- the first file that is seen, of which others are made
abbrev pub first_seen : Mail → Option FileParts
first_seen mail = slice_get mail.seen 0

-- the file that stands in the folder in the end
abbrev pub standing_from : Mail → List ℕ → Option FileParts → FileParts
standing_from mail label None = put_in mail label (first_seen mail)
standing_from mail label (Some file) = if tells mail.flags file then file else put_in mail label (Some file)

abbrev pub standing_in : Mail → List ℕ → FileParts
standing_in mail label = standing_from mail label (kept_in mail label)

abbrev pub standing_files : Mail → List (List ℕ) → List FileParts
standing_files mail labels = map (standing_in mail) labels

-- ---- the acts

-- a link where no file of the folder is seen
abbrev pub link_where : Mail → List ℕ → Option FileParts → List FileAct
link_where mail label None = Link (first_seen mail) (put_in mail label (first_seen mail)) ∷ []
link_where mail label (Some file) = []

-- a new name where the file that is kept tells other flags
abbrev pub move_where : Mail → List ℕ → Option FileParts → List FileAct
move_where mail label None = []
move_where mail label (Some file) = if tells mail.flags file then [] else Move file (put_in mail label (Some file)) ∷ []

abbrev pub link_in : Mail → List ℕ → List FileAct
link_in mail label = link_where mail label (kept_in mail label)

abbrev pub move_in : Mail → List ℕ → List FileAct
move_in mail label = move_where mail label (kept_in mail label)

abbrev pub is_one : Option FileParts → FileParts → Bool
is_one None file = false
is_one (Some kept) file = file_eq kept file

-- whether the file is kept
abbrev pub is_kept : Mail → List (List ℕ) → FileParts → Bool
is_kept mail labels file = has_label labels file.label && is_one (kept_in mail file.label) file

-- the removal of a file that isn't kept
abbrev pub remove_of : Mail → List (List ℕ) → FileParts → List FileAct
remove_of mail labels file = if is_kept mail labels file then [] else Remove file ∷ []

-- links first, then new names, and last what goes
abbrev pub acts_for : Mail → List (List ℕ) → List FileAct
acts_for mail labels = flat_map (link_in mail) labels ++ flat_map (move_in mail) labels ++ flat_map (remove_of mail labels) mail.seen

-- ---- names that are taken

-- the file that another would be made of in the folder, if one has to be made
abbrev pub is_blocked_from : Mail → List ℕ → Option FileParts → Bool
is_blocked_from mail label source = is_taken mail.taken label (own_name mail source) && is_taken mail.taken label mail.digits

abbrev pub is_blocked_where : Mail → List ℕ → Option FileParts → Bool
is_blocked_where mail label None = is_blocked_from mail label (first_seen mail)
is_blocked_where mail label (Some file) = not (tells mail.flags file) && is_blocked_from mail label (Some file)

-- whether a file has to be made in the folder, and both names are taken
abbrev pub is_blocked : Mail → List ℕ → Bool
is_blocked mail label = is_blocked_where mail label (kept_in mail label)

-- why there are no acts: memory may be wanting wherever no folder is blocked
abbrev pub IsFileFault : Mail → List (List ℕ) → FileFault → Type 0
IsFileFault mail labels OutOfMemory = Unit {0}
IsFileFault mail labels NameTaken = IsTrue (list_any (is_blocked mail) labels)

-- whether an act makes no file that is there: neither one of the mail, nor one of another's name
abbrev pub is_free : Mail → FileParts → Bool
is_free mail file = not (has_file mail.seen file) && not (is_taken mail.taken file.label file.unique)

abbrev pub overwrites_nothing : Mail → FileAct → Bool
overwrites_nothing mail (Link from to) = is_free mail to
overwrites_nothing mail (Move from to) = is_free mail to
overwrites_nothing mail (Remove file) = true

-- one mail as a settling has it
abbrev pub mail_of : List FileParts → ℕ → List ℕ → List ℕ → List FileParts → Mail
mail_of seen flags told digest taken =
    record { seen = seen; taken = taken; flags = flags; spare = unique_for told digest; digits = encode_lower digest }

abbrev pub fault_number : FileFault → ℕ
fault_number OutOfMemory = 0
fault_number NameTaken = 1
