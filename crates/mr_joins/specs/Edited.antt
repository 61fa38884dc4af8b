-- what users' acts make of a value
use Rattle.std.specs.Prelude.{ℕ, ◌<◌, ◌-◌, ◌^◌, Bool, true, false, not, ◌&&◌, ◌||◌, if◌then◌else◌, List, [], ◌∷◌, ◌++◌, map, filter, All, nat_lt}
use Rattle.std.specs.List.{flat_map, list_all}
use Rattle.std.specs.Cmp.Lexicographic.{pointwise}
use Rattle.mr_version.specs.Name.{Name, name_eq}
use Rattle.mr_mail.specs.Flag.{has_flag, all_flags}
use Rattle.mr_mail.specs.Label.{has_label, text_eq}
use Rattle.mr_mail.specs.declared.flags.Flag.{Flag}
use Rattle.mr_joins.specs.declared.count.Count.{Count}
use Rattle.mr_joins.specs.declared.element.Element.{Element}
use Rattle.mr_joins.specs.declared.element.Element.TheVariants as element
use Rattle.mr_joins.specs.declared.mark.Mark.{Mark}
use Rattle.mr_joins.specs.Count.{once, even_count, next_odd_count, gone_count}
use Rattle.mr_joins.specs.Value.{Key, says, join}
use Rattle.mr_joins.specs.Shown.{has, is_deleted, folders_shown}

-- whether each count may rise by two below 2^32
abbrev pub has_room : List Mark → Bool
has_room marks = list_all (λ (m : Mark). nat_lt m.count.raised 4294967294) marks

-- each count may
abbrev pub HasRoom : List Mark → Type 0
HasRoom marks = All (λ (m : Mark). m.count.raised < 2 ^ 32 - 2) marks

-- these flags as elements
abbrev pub flag_elements : ℕ → List Element
flag_elements flags = map (λ (f : Flag). element.Flag f) (filter (has_flag flags) all_flags)

-- the elements of a mail that stands in these folders and has these flags
abbrev pub elements_of : List (List ℕ) → ℕ → List Element
elements_of labels flags = flag_elements flags ++ map (λ (l : List ℕ). element.Folder l) labels

-- whether an element is one of them
abbrev pub is_wanted : List (List ℕ) → ℕ → Element → Bool
is_wanted labels flags (element.Flag flag) = has_flag flags flag
is_wanted labels flags (element.Other word) = false
is_wanted labels flags (element.Folder label) = has_label labels label

-- a mark of an element that was toggled once
abbrev pub new_mark : Name → Element → Mark
new_mark item e = record { item = item; element = e; count = once }

-- a new mail: each of its elements was toggled once
abbrev pub new_mail : Name → List (List ℕ) → ℕ → List Mark
new_mail item labels flags = join [] (map (new_mark item) (elements_of labels flags))

-- the mail deleted: as far as is known of each count
abbrev pub deleted_mark : Mark → Mark
deleted_mark m = record m { count = gone_count m.count }

abbrev pub deleted : List Mark → List Mark
deleted marks = map deleted_mark marks

-- where these folders are shown, an edit to some folders is about the flags, and about the folders if it changes them
abbrev pub is_about_by : List (List ℕ) → List (List ℕ) → Element → Bool
is_about_by shown labels (element.Flag flag) = true
is_about_by shown labels (element.Other word) = false
is_about_by shown labels (element.Folder label) = not (pointwise text_eq shown labels)

abbrev pub is_about : List Mark → List (List ℕ) → Element → Bool
is_about marks labels e = is_about_by (folders_shown marks) labels e

-- a folder that isn't one of those that are shown
abbrev pub is_unseen : List (List ℕ) → Element → Bool
is_unseen shown (element.Flag flag) = false
is_unseen shown (element.Other word) = false
is_unseen shown (element.Folder label) = not (has_label shown label)

-- it takes off: of a deleted mail all; else what it is about and isn't wanted
abbrev pub takes : List Mark → List (List ℕ) → ℕ → Element → Bool
takes marks labels flags e = is_deleted marks || (is_about marks labels e && not (is_wanted labels flags e))

-- of what is wanted it raises: of a deleted mail all; else what it is about and isn't set, or isn't shown
abbrev pub raises : List Mark → List (List ℕ) → Element → Bool
raises marks labels e = is_deleted marks || (is_about marks labels e && (not (has marks e) || is_unseen (folders_shown marks) e))

-- a count, of an element that is taken off or not
abbrev pub left_count : Bool → Count → Count
left_count is_taken c = if is_taken then even_count c else c

-- a mark, with its element taken off or not
abbrev pub with_left : Mark → Bool → Mark
with_left m is_taken = record m { count = left_count is_taken m.count }

-- a mark with what is taken off
abbrev pub left_mark : List Mark → List (List ℕ) → ℕ → Mark → Mark
left_mark marks labels flags m = with_left m (takes marks labels flags m.element)

-- the mark of an element that is raised to the next odd number
abbrev pub raised_mark : List Mark → Name → Element → Mark
raised_mark marks item e = record { item = item; element = e; count = next_odd_count (says marks (item, e)) }

-- a mark for a wanted element, if it is raised
abbrev pub raised_of : List Mark → Name → List (List ℕ) → Element → List Mark
raised_of marks item labels e = if raises marks labels e then raised_mark marks item e ∷ [] else []

-- the value after an edit to some folders
abbrev pub changed : List Mark → Name → List (List ℕ) → ℕ → List Mark
changed marks item labels flags = join (map (left_mark marks labels flags) marks) (flat_map (raised_of marks item labels) (elements_of labels flags))

-- The value after an edit to these folders and flags, by a delivery. To no folder deletes the mail.
abbrev pub edited : List Mark → Name → List (List ℕ) → ℕ → List Mark
edited marks item [] flags = deleted marks
edited marks item (label ∷ labels) flags = changed marks item (label ∷ labels) flags

-- the same, key by key: a wanted element is raised by this delivery, and what is taken off is left by each
abbrev pub changed_count : List Mark → Name → List (List ℕ) → ℕ → Key → Count
changed_count marks item labels flags key =
    if name_eq key.0 item && (is_wanted labels flags key.1 && raises marks labels key.1) then next_odd_count (says marks key)
    else left_count (takes marks labels flags key.1) (says marks key)
