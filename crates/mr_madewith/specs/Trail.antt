-- the trail as contracts see it
use Rattle.std.specs.Prelude.{ℕ, Option, List}
use Rattle.mr_version.specs.Name.{Name}
use Rattle.mr_madewith.specs.Revision.{Rev}
use Rattle.mr_madewith.specs.Keyed.{named, without, inserted}

-- the item of a last version
abbrev pub item_of_last : Rev → Name
item_of_last r = r.item

-- the last versions in the order of their items, and for how many more there is room
pub record Track : Type 0 where
  pub lasts : List Rev
  pub room : ℕ

-- the last version of an item
abbrev pub last_of : List Rev → Name → Option Rev
last_of lasts item = named item_of_last item lasts

-- the trail with a version that is now its item's last
abbrev pub noted : Rev → List Rev → List Rev
noted r lasts = inserted item_of_last r (without item_of_last r.item lasts)
