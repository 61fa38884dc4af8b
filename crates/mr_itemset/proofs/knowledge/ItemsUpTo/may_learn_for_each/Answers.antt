use Rattle.mr_itemset.proofs.Names.{normal_known, with_each}
use Rattle.mr_itemset.proofs.RefusalLemmas.{succeeds}
use Rattle.mr_itemset.proofs.ValueLemmas.{known_value}
use Rattle.mr_itemset.proofs.knowledge.ItemsUpTo.may_learn_for_each.Goals as goal

-- what the items have already has a value
pub returns-then-not-some_lack-clause-holes : goal.returns-then-not-some_lack-clause-holes
returns-then-not-some_lack-clause-holes g c =
    let k = c.args.self.now in
    succeeds _ _ (known_value k (with_each (normal_known k) c.args.items.now (g.S.Source.has c.args.set.now)) c.some_lack.ensures.normal (c.some_lack.ensures.no c.if-not-some_lack.true)).0

pub returns-then-not-some_lack-clause-items : goal.returns-then-not-some_lack-clause-items
returns-then-not-some_lack-clause-items g c =
    let k = c.args.self.now in
    succeeds _ _ (λ only. (known_value k (with_each (normal_known k) c.args.items.now (g.S.Source.has c.args.set.now)) c.some_lack.ensures.normal (c.some_lack.ensures.no c.if-not-some_lack.true)).1 only.0)

pub returns-clause-items : goal.returns-clause-items
returns-clause-items g c = succeeds _ _ (λ only. c.has_room_for.ensures.yes c.if-not-has_room_for.false (g.S.Source.has c.args.set.now) only.0)
