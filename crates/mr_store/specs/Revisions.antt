-- revisions in version order
use Rattle.std.specs.Prelude.{◌≡◌, Bool, false, not, ◌&&◌, nat_le, is_some, Option, List, length, map, filter}
use Rattle.std.specs.List.Sorted.{IsStrictlySortedBy}
use Rattle.mr_version.specs.Name.{Name, name_cmp, name_eq}
use Rattle.mr_forms.specs.Sets.{Versions, is_listed}
use Rattle.mr_madewith.specs.Revision.{Rev}
use Rattle.mr_madewith.specs.Keyed.{AreRising, named, inserted}

abbrev pub version_of : Rev → Name
version_of r = r.version

-- each stands before the next
abbrev pub AreInVersionOrder : List Rev → Type 0
AreInVersionOrder rs = AreRising version_of rs

-- the revision of a version
abbrev pub revision_of : List Rev → Name → Option Rev
revision_of rs v = named version_of v rs

-- one of them is of that version
abbrev pub holds : List Rev → Versions
holds rs v = is_some (revision_of rs v)

-- no version is in both lists
abbrev pub AreApart : List Rev → List Rev → Type 0
AreApart rs ss = (v : Name) → (holds rs v && holds ss v) ≡ false

-- the revisions with one more at its place
abbrev pub entered : Rev → List Rev → List Rev
entered r rs = inserted version_of r rs

abbrev pub is_of : Name → Rev → Bool
is_of item r = name_eq r.item item

-- the versions of an item, in version order
abbrev pub versions_of : Name → List Rev → List Name
versions_of item rs = map version_of (filter (is_of item) rs)

-- whether a version of the item that supersedes all of the set supersedes the revision
abbrev pub supersedes : (item : Name) → Versions → Rev → Bool
supersedes item below r = is_of item r && below r.version

-- what such a version leaves
abbrev pub left_by : (item : Name) → Versions → List Rev → List Rev
left_by item below rs = filter (λ r. not (supersedes item below r)) rs

-- whether there are two or more revisions of the item, which conflict
abbrev pub has_conflict : List Rev → Name → Bool
has_conflict rs item = nat_le 2 (length (versions_of item rs))

-- the items with a conflict, each before the next
pub record AreConflicts (heads : List Rev) (items : List Name) : Type 0 where
  pub rising : IsStrictlySortedBy name_cmp items
  pub exact : (item : Name) → is_listed items item ≡ has_conflict heads item
