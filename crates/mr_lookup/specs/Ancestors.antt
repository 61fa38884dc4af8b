-- which versions of an item several others come of
use Rattle.std.specs.Prelude.{Bool, not, ◌&&◌, List, filter}
use Rattle.std.specs.List.{list_all}
use Rattle.mr_version.specs.Name.{name_eq}
use Rattle.mr_madewith.specs.Revision.{Rev, has_below}

-- whether the first is of the second's item, and supersedes it
abbrev pub is_above : Rev → Rev → Bool
is_above above r = name_eq above.item r.item && has_below above r.version

-- whether each of the heads supersedes it: it is an ancestor of them all
abbrev pub is_common : List Rev → Rev → Bool
is_common heads r = list_all (λ head. is_above head r) heads

-- whether none of these supersedes it
abbrev pub is_topmost : List Rev → Rev → Bool
is_topmost rs r = list_all (λ other. not (is_above other r)) rs

-- the newest of those that are ancestors of all heads: none of these supersedes it
abbrev pub newest_common : (heads : List Rev) → List Rev → List Rev
newest_common heads rs = let common = filter (is_common heads) rs in filter (is_topmost common) common
