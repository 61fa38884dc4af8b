-- counts, and what raises them
use Rattle.std.specs.Prelude.{◌+◌, ◌%◌, ◌==◌, max, nat_le, Bool}
use Rattle.mr_joins.specs.declared.count.Count.{Count}

-- an element that was never toggled
abbrev pub never : Count
never = record { raised = 0; gone = 0 }

-- an element that was toggled once
abbrev pub once : Count
once = record { raised = 1; gone = 0 }

-- the greater of each
abbrev pub larger : Count → Count → Count
larger a b = record { raised = max a.raised b.raised; gone = max a.gone b.gone }

-- what was toggled an odd number of times is set
abbrev pub is_set : Count → Bool
is_set c = c.raised % 2 == 1

-- a deletion knew all of it
abbrev pub is_covered : Count → Bool
is_covered c = nat_le c.raised c.gone

-- raised by one, if it is set
abbrev pub even_count : Count → Count
even_count c = record { raised = c.raised + c.raised % 2; gone = c.gone }

-- raised to the next odd number: by one, or by two if it is set
abbrev pub next_odd_count : Count → Count
next_odd_count c = record { raised = c.raised + 1 + c.raised % 2; gone = c.gone }

-- a deletion that knows all of it
abbrev pub gone_count : Count → Count
gone_count c = record { raised = c.raised; gone = max c.raised c.gone }
