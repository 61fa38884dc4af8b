use Rattle.std.proofs.Common.{◌≡◌, ◌++◌, map}
use Rattle.mr_compare.proofs.Names.{flat_map, standing_parts, standings_at}
use Rattle.mr_compare.proofs.joining.item_standings.Given as goal

-- the items so far and those of the entries that are left are all
abbrev pub invariant-loop-key : goal.invariant-loop-key
invariant-loop-key l = map standing_parts l.standings.items ++ flat_map (standings_at l.ancestors.entries) l.key-iterator ≡ flat_map (standings_at l.ancestors.entries) l.by_item.entries
