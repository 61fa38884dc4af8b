-- values of a mail: what its marks say
use Rattle.std.specs.Prelude.{◌<◌, ◌≤◌, Bool, if◌then◌else◌, List, [], ◌∷◌, All, fold, map}
use Rattle.std.specs.List.Sorted.{IsStrictlySortedBy}
use Rattle.std.specs.declared.cmp.Ordering.{Ordering}
use Rattle.std.specs.Ordering.{ordering_then, match_ordering, is_eq}
use Rattle.mr_version.specs.Name.{Name, name_cmp}
use Rattle.mr_joins.specs.declared.count.Count.{Count}
use Rattle.mr_joins.specs.declared.element.Element.{Element}
use Rattle.mr_joins.specs.declared.mark.Mark.{Mark}
use Rattle.mr_joins.specs.Count.{never, larger}
use Rattle.mr_joins.specs.Element.{element_cmp}
use Rattle.mr_joins.specs.Says.{Says}

-- an element of a delivery
abbrev pub Key : Type 0
Key = Name × Element

-- keys stand by delivery, then by element
abbrev pub key_cmp : Key → Key → Ordering
key_cmp a b = ordering_then (name_cmp a.0 b.0) (element_cmp a.1 b.1)

abbrev pub key_of : Mark → Key
key_of m = (m.item, m.element)

abbrev pub mark_cmp : Mark → Mark → Ordering
mark_cmp a b = key_cmp (key_of a) (key_of b)

-- whether a mark is of this element of this delivery
abbrev pub is_of : Mark → Key → Bool
is_of m key = is_eq (key_cmp key (key_of m))

-- what marks say of a key: the count of the mark that is of it; of all others that they were never toggled
abbrev pub says : List Mark → Key → Count
says [] key = never
says (m ∷ more) key = if is_of m key then m.count else says more key

-- what a mark says of a key
abbrev pub said_by : Mark → Key → Count
said_by m key = if is_of m key then m.count else never

-- a mark tells of a key that was toggled, and of no deletion that knew more
abbrev pub IsMark : Mark → Type 0
IsMark m = (0 < m.count.raised) × (m.count.gone ≤ m.count.raised)

-- what each value keeps: its marks rise by their keys, each key once. So what says the same is one list.
pub record IsValue (marks : List Mark) : Type 0 where
  pub rising : IsStrictlySortedBy mark_cmp marks
  pub each : All IsMark marks

-- marks with one more at its place: beside another one of its key the greater of each count stays
abbrev pub with_mark : Mark → List Mark → List Mark
with_mark m [] = m ∷ []
with_mark m (own ∷ more) = match_ordering (mark_cmp m own) (m ∷ own ∷ more) (record own { count = larger own.count m.count } ∷ more) (own ∷ with_mark m more)

-- two values together
abbrev pub join : List Mark → List Mark → List Mark
join a b = fold (λ marks m. with_mark m marks) a b

-- all of these values together; none say nothing
abbrev pub joined : List (List Mark) → List Mark
joined values = fold join [] values

-- what each of these values says
abbrev pub values_of : List (List Mark) → List (Says Key)
values_of values = map says values
