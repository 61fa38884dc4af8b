-- the lower one of two versions
use Rattle.std.specs.Prelude.{Option, Some, None}
use Rattle.std.specs.Ordering.{ord_min}
use Rattle.mr_version.specs.Name.{Name, name_cmp}
use Rattle.mr_compare.specs.Joining.{lowest}

-- ---- mails

-- the lower one, where there are two
abbrev pub lower_of : Option Name → Name → Name
lower_of None version = version
lower_of (Some lowest) version = ord_min name_cmp lowest version
