use Rattle.std.proofs.Common.{◌≡◌, []}
use Rattle.mr_itemset.proofs.Names.{IsGrouping, MAX_ITEMS, all_grouped, listed_of}
use Rattle.mr_itemset.proofs.groups.groups_of.Given as goal

-- with what is left grouped too, the groups are those of all
abbrev pub invariant-loop-item : goal.invariant-loop-item
invariant-loop-item l = record {
  all : all_grouped MAX_ITEMS l.grouping.groups.items (listed_of l.item-iterator) ≡ all_grouped MAX_ITEMS [] (listed_of l.fn.listed.entries);
  are : IsGrouping l.grouping.groups.items l.grouping;
}
