-- elements of a mail, and their order
use Rattle.std.specs.Prelude.{ℕ, Bool, List, []}
use Rattle.std.specs.declared.cmp.Ordering.{Ordering}
use Rattle.std.specs.Ordering.{nat_cmp, ordering_then, eq_by_cmp}
use Rattle.mr_mail.specs.Label.{text_cmp}
use Rattle.mr_mail.specs.declared.flags.Flag.{Flag}
use Rattle.mr_mail.specs.declared.flags.Flag.TheVariants.{Seen, Answered, Flagged, Draft, Deleted}
use Rattle.mr_joins.specs.declared.element.Element.{Element}
use Rattle.mr_joins.specs.declared.element.Element.TheVariants as element

-- the places of the flags, in the order of their letters
abbrev pub flag_place : Flag → ℕ
flag_place Draft = 0
flag_place Flagged = 1
flag_place Answered = 2
flag_place Seen = 3
flag_place Deleted = 4

-- flags come first, then words that aren't known, then folders
abbrev pub element_place : Element → ℕ
element_place (element.Flag flag) = flag_place flag
element_place (element.Other word) = 5
element_place (element.Folder label) = 6

-- the text of an element that isn't a flag
abbrev pub element_text : Element → List ℕ
element_text (element.Flag flag) = []
element_text (element.Other word) = word
element_text (element.Folder label) = label

-- by place, then by the bytes of the text
abbrev pub element_cmp : Element → Element → Ordering
element_cmp a b = ordering_then (nat_cmp (element_place a) (element_place b)) (text_cmp (element_text a) (element_text b))

-- whether two elements are one
abbrev pub element_eq : Element → Element → Bool
element_eq = eq_by_cmp element_cmp
