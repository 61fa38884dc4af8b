-- how a mail is seen in its files
use Rattle.std.specs.Prelude.{ℕ, Bool, ◌||◌, if◌then◌else◌, List, map, Option, Some, None}
use Rattle.std.specs.List.{list_all, list_any}
use Rattle.mr_mail.specs.Flag.{has_flag, flag_eq}
use Rattle.mr_mail.specs.declared.flags.Flag.{Flag}
use Rattle.mr_mail.specs.declared.flags.Flag.TheVariants.{Deleted}
use Rattle.mr_maildir.specs.File.{FileParts, flags_on}
use Rattle.mr_maildir.specs.Letters.{flags_where}
use Rattle.mr_maildir.specs.View.{ViewParts, in_order}

abbrev pub file_label : FileParts → List ℕ
file_label file = file.label

-- the flags that a mail was left with, if it was left
abbrev pub flags_left : Option ViewParts → ℕ
flags_left None = 0
flags_left (Some view) = view.flags

abbrev pub is_flag_on : Flag → FileParts → Bool
is_flag_on flag file = has_flag (flags_on file) flag

-- whether a flag is seen: one that was left, and that of a deleted mail, on each file, another one on some file
abbrev pub is_flag_seen : ℕ → List FileParts → Flag → Bool
is_flag_seen left files flag = if flag_eq flag Deleted || has_flag left flag then list_all (is_flag_on flag) files else list_any (is_flag_on flag) files

-- in the folders of all files, with the flags that are seen
abbrev pub seen_view : Option ViewParts → List FileParts → ViewParts
seen_view left files = record {
  labels = in_order (map file_label files);
  flags = flags_where (is_flag_seen (flags_left left) files);
}
