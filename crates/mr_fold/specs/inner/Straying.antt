-- mails in folders that are passed over, as they are found
use Rattle.std.specs.Prelude.{◌≡◌, ℕ, ◌==◌, IsSome, if◌then◌else◌, List, count_by, Option, Some, None, option_map, slice_get, string_bytes}
use Rattle.std.specs.List.{filter_map}
use Rattle.std.specs.Map.{lookup}
use Rattle.std.specs.Ordering.{is_eq}
use Rattle.mr_mail.specs.Label.{text_cmp}
use Rattle.mr_maildir.specs.Folder.{label_of}
use Rattle.mr_maildir.specs.Layout.{folder_path, name_at}
use Rattle.mr_maildir.specs.declared.layout.Layout.{Layout}
use Rattle.mr_maildir.specs.declared.layout.Layout.TheVariants.{Dots, Plain}
use Rattle.mr_compare.specs.Tally.{deletes}
use Rattle.mr_compare.specs.declared.compare.MailAct.{MailAct}
use Rattle.mr_fold.specs.declared.straying.StrayMails.{StrayMails}
use Rattle.mr_fold.specs.declared.straying.WhyPassedOver.{WhyPassedOver}
use Rattle.mr_fold.specs.declared.straying.WhyPassedOver.TheVariants.{NoFolder, SameLabel}

-- where a table has a mail lie that an act deletes
abbrev pub place_of : List (List ℕ × ℕ) → MailAct → Option ℕ
place_of table mail = if deletes mail.act then lookup (λ own. is_eq (text_cmp mail.digest own)) table else None

-- the first of some places, and how often it stands among them
abbrev pub first_place : List ℕ → Option (ℕ × ℕ)
first_place places = option_map (λ place. (place, count_by (λ other. other == place) places)) (slice_get places 0)

-- the folder that stray mails lie in, and how many they are
abbrev pub stray_parts : StrayMails → List ℕ × ℕ
stray_parts stray = (string_bytes stray.folder, stray.mails)

abbrev pub lying_at : ℕ → List ℕ → List ℕ × ℕ
lying_at mails path = (path, mails)

-- the path at a place, with how many mails lie there
abbrev pub with_path : List (List ℕ) → Option (ℕ × ℕ) → Option (List ℕ × ℕ)
with_path paths None = None
with_path paths (Some found) = option_map (lying_at found.1) (slice_get paths found.0)

-- the folder that the first mail lies in that an act deletes and the table tells of, and how many of those mails lie in it
abbrev pub strays : List (List ℕ) → List (List ℕ × ℕ) → List MailAct → Option (List ℕ × ℕ)
strays paths table acts = with_path paths (first_place (filter_map (place_of table) acts))

abbrev pub other_layout : Layout → Layout
other_layout Dots = Plain
other_layout Plain = Dots

-- where a layout has the folder of a name
abbrev pub path_of : Layout → List ℕ → List ℕ
path_of layout name = folder_path layout (label_of name) (Some name)

-- where a layout has the folder that the other one has at a path, if that has one there
abbrev pub path_instead : Layout → List ℕ → Option (List ℕ)
path_instead layout path = option_map (path_of layout) (name_at (other_layout layout) path)

-- Why a layout passes the folder at a path over: another one has its label, if the layout has a folder there, and else it has none, but may have it where
-- the other layout has what lies there.
abbrev pub IsWhy : Layout → List ℕ → WhyPassedOver → Type 0
IsWhy layout path SameLabel = IsSome (name_at layout path)
IsWhy layout path (NoFolder own instead) = (name_at layout path ≡ None) × (own ≡ layout) × (option_map string_bytes instead ≡ path_instead layout path)

-- so it is told of these mails
abbrev pub IsExplained : Layout → StrayMails → Type 0
IsExplained layout stray = IsWhy layout (string_bytes stray.folder) stray.why
