-- what is shown of a value
use Rattle.std.specs.Prelude.{ℕ, Bool, ◌&&◌, if◌then◌else◌, List, [], ◌∷◌, ◌++◌, fold, take, drop}
use Rattle.std.specs.List.{list_all, list_any, flat_map}
use Rattle.std.specs.Int.RustNames.{bit_or}
use Rattle.mr_mail.specs.Label.{has_label}
use Rattle.mr_mail.specs.Flag.{bit_of, all_flags}
use Rattle.mr_mail.specs.declared.flags.Flag.{Flag}
use Rattle.mr_mail.specs.declared.label.TheConstants.{MAX_LABELS}
use Rattle.mr_joins.specs.declared.element.Element.{Element}
use Rattle.mr_joins.specs.declared.element.Element.TheVariants as element
use Rattle.mr_joins.specs.declared.mark.Mark.{Mark}
use Rattle.mr_joins.specs.Count.{is_set, is_covered}
use Rattle.mr_joins.specs.Element.{element_eq}
use Rattle.mr_joins.specs.Labels.{inbox, in_order}
use Rattle.mr_joins.specs.View.{ViewParts}

-- the mail is deleted: nothing was raised beyond what the deletions knew
abbrev pub is_deleted : List Mark → Bool
is_deleted marks = list_all (λ m. is_covered m.count) marks

-- whether a mark sets this element
abbrev pub sets : Element → Mark → Bool
sets e m = element_eq e m.element && is_set m.count

-- the element is set by some delivery
abbrev pub has : List Mark → Element → Bool
has marks e = list_any (sets e) marks

-- the label of an element that is a folder
abbrev pub label_of : Element → List (List ℕ)
label_of (element.Flag flag) = []
label_of (element.Other word) = []
label_of (element.Folder label) = label ∷ []

-- the label of the folder that a mark sets
abbrev pub folder_set : Mark → List (List ℕ)
folder_set m = if is_set m.count then label_of m.element else []

-- the folders that are set, by their labels in rising order
abbrev pub folders_set : List Mark → List (List ℕ)
folders_set marks = in_order (flat_map folder_set marks)

-- a label stands behind the sixteen first ones
abbrev pub is_behind : List (List ℕ) → List ℕ → Bool
is_behind labels label = has_label (drop MAX_LABELS labels) label

-- sixteen labels at most: the least; where the inbox is behind these, the fifteen least and the inbox
abbrev pub first_labels : List (List ℕ) → List (List ℕ)
first_labels labels = if is_behind labels inbox then take 15 labels ++ inbox ∷ [] else take MAX_LABELS labels

-- the inbox where there is none
abbrev pub or_inbox : List (List ℕ) → List (List ℕ)
or_inbox [] = inbox ∷ []
or_inbox (label ∷ labels) = label ∷ labels

-- The folders in which the mail is shown: none if it is deleted; else the first of those that are set, and the inbox where none is.
abbrev pub folders_shown : List Mark → List (List ℕ)
folders_shown marks = if is_deleted marks then [] else or_inbox (first_labels (folders_set marks))

-- a flag byte, with one more flag if it is wanted
abbrev pub with_flag_if : ℕ → Flag → Bool → ℕ
with_flag_if bits flag wanted = if wanted then bit_or bits (bit_of flag) else bits

-- the flag byte of the flags that pass
abbrev pub flags_where : (Flag → Bool) → ℕ
flags_where test = fold (λ bits flag. with_flag_if bits flag (test flag)) 0 all_flags

-- the flags that are set
abbrev pub flags_set : List Mark → ℕ
flags_set marks = flags_where (λ flag. has marks (element.Flag flag))

-- the flags that are shown: of a deleted mail that it is deleted; else those that are set
abbrev pub flags_shown : List Mark → ℕ
flags_shown marks = if is_deleted marks then 16 else flags_set marks

-- how the mail is shown
abbrev pub shown_view : List Mark → ViewParts
shown_view marks = record { labels = folders_shown marks; flags = flags_shown marks }
