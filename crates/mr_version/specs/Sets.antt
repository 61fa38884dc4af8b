-- sets of versions by their tests, and lists of versions
use Rattle.std.specs.Prelude.{Bool, false, List}
use Rattle.std.specs.List.{list_any}
use Rattle.std.specs.Ordering.{is_lt}
use Rattle.mr_version.specs.Name.{Name, name_cmp, name_eq}

-- a set of versions, by its test
abbrev pub Versions : Type 0
Versions = Name → Bool

-- the empty set
abbrev pub nothing : Versions
nothing v = false

-- a stands before b: by author, then by counter
abbrev pub is_before : Name → Name → Bool
is_before a b = is_lt (name_cmp a b)

-- the list has v
abbrev pub is_listed : List Name → Versions
is_listed versions v = list_any (name_eq v) versions
