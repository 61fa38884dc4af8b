-- where a mark is put
use Rattle.std.specs.Prelude.{Bool}
use Rattle.std.specs.Ordering.{is_le}
use Rattle.mr_joins.specs.declared.mark.Mark.{Mark}
use Rattle.mr_joins.specs.Value.{mark_cmp}

-- whether another mark doesn't stand before this one
abbrev pub is_from : Mark → Mark → Bool
is_from m own = is_le (mark_cmp m own)
