-- which marks a record tells of a mail's value
use Rattle.std.specs.Prelude.{ℕ, Bool, not, ◌&&◌, ◌==◌, filter, if◌then◌else◌, List, [], ◌++◌, length}
use Rattle.std.specs.Cmp.Lexicographic.{pointwise}
use Rattle.mr_version.specs.Name.{Name, name_eq}
use Rattle.mr_mail.specs.Flag.{has_flag}
use Rattle.mr_mail.specs.Label.{text_eq}
use Rattle.mr_mail.specs.declared.flags.Flag.TheVariants.{Deleted}
use Rattle.mr_joins.specs.declared.mark.Mark.{Mark}
use Rattle.mr_joins.specs.Edited.{new_mail}
use Rattle.mr_joins.specs.Element.{element_eq}
use Rattle.mr_joins.specs.Shown.{flags_shown, folders_shown}

-- a message that says that its mail is deleted: it has no label, and the flag
abbrev pub is_deletion : List (List ℕ) → ℕ → Bool
is_deletion labels flags = (length labels == 0) && has_flag flags Deleted

-- the value of a record of the own item that tells no marks: a new mail's, and of a deletion none
abbrev pub uncounted : Name → List (List ℕ) → ℕ → List Mark
uncounted own labels flags = if is_deletion labels flags then [] else new_mail own labels flags

-- two marks are one, and two lists of marks
abbrev pub mark_eq : Mark → Mark → Bool
mark_eq a b = name_eq a.item b.item && element_eq a.element b.element && (a.count.raised == b.count.raised) && (a.count.gone == b.count.gone)

abbrev pub marks_eq : List Mark → List Mark → Bool
marks_eq = pointwise mark_eq

-- the marks of the own item, and those of others
abbrev pub own_marks : Name → List Mark → List Mark
own_marks own marks = filter (λ (m : Mark). name_eq own m.item) marks

abbrev pub other_marks : Name → List Mark → List Mark
other_marks own marks = filter (λ (m : Mark). not (name_eq own m.item)) marks

-- what is told of a value: nothing where it is that of a record without counts; else all marks, the own item's first
abbrev pub told_marks : Name → List Mark → List (List ℕ) → ℕ → List Mark
told_marks own value labels flags = if marks_eq (uncounted own labels flags) value then [] else own_marks own value ++ other_marks own value

-- the value shows just these labels and flags
abbrev pub is_shown_by : List Mark → List (List ℕ) → ℕ → Bool
is_shown_by value labels flags = pointwise text_eq (folders_shown value) labels && (flags_shown value == flags)
