use Rattle.std.proofs.Common.{All, take}
use Rattle.mr_itemset.proofs.Names.{AreSame, HasValue, after_all, after_each, items_form, normal_known}
use Rattle.mr_itemset.proofs.knowledge.ItemsUpTo.with_fragments.Given as goal

-- the fragments so far are merged, and each of them had a value
abbrev pub invariant-loop-fragment : goal.invariant-loop-fragment
invariant-loop-fragment g l = record {
  is : AreSame (normal_known l.knowledge) (after_all g.S.VersionSet.has (normal_known l.fn.self) (take l.fragment-index l.fn.fragments));
  fits : All (HasValue (items_form g.row.LIMIT)) (after_each g.S.VersionSet.has (normal_known l.fn.self) (take l.fragment-index l.fn.fragments));
}
