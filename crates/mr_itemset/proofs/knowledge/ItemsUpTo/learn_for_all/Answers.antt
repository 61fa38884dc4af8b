use Rattle.mr_itemset.proofs.Names.{HasValue, items_form, normal_known}
use Rattle.mr_itemset.specs.ItemForm.{with_all}
use Rattle.mr_itemset.proofs.LimitLemmas.{lists_few}
use Rattle.mr_itemset.proofs.MergingLemmas.{all_have}
use Rattle.mr_itemset.proofs.RefusalLemmas.{succeeds, once_holes, once_items}
use Rattle.mr_itemset.proofs.ValueLemmas.{known_value}
use Rattle.mr_itemset.proofs.knowledge.ItemsUpTo.learn_for_all.Goals as goal

pub returns-then-not-all_lack-clause-ok : goal.returns-then-not-all_lack-clause-ok
returns-then-not-all_lack-clause-ok g c = all_have c.args.self.now (g.S.VersionSet.has c.args.set.now) c.all_lack.ensures.normal (c.all_lack.ensures.no c.if-not-all_lack.true)

-- what all items have already has a value
pub returns-then-not-all_lack-clause-holes : goal.returns-then-not-all_lack-clause-holes
returns-then-not-all_lack-clause-holes g c =
    let value : HasValue (items_form g.row.LIMIT) (with_all (normal_known c.args.self.now) (g.S.VersionSet.has c.args.set.now)) = known_value c.args.self.now (with_all (normal_known c.args.self.now) (g.S.VersionSet.has c.args.set.now)) c.all_lack.ensures.normal (returns-then-not-all_lack-clause-ok g c) in
    succeeds _ _ value.0

pub returns-then-not-all_lack-clause-items : goal.returns-then-not-all_lack-clause-items
returns-then-not-all_lack-clause-items g c = succeeds _ _ (λ only. lists_few c.args.self.now (g.S.VersionSet.has c.args.set.now) c.all_lack.ensures.normal only.0)

pub returns-clause-holes : goal.returns-clause-holes
returns-clause-holes g c = once_holes _ c.grow.ensures.holes

pub returns-clause-items : goal.returns-clause-items
returns-clause-items g c = once_items _ c.grow.ensures.items

pub returns-clause-none : goal.returns-clause-none
returns-clause-none g c over = lists_few c.args.self.now (g.S.VersionSet.has c.args.set.now) c.all_lack.ensures.normal ((returns-clause-items g c).0 over).0
