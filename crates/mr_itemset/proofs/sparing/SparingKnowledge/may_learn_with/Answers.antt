use Rattle.std.proofs.Common.{rules}
use Rattle.mr_itemset.proofs.SparingLemmas.{holes_told, items_told}
use Rattle.mr_itemset.proofs.sparing.SparingKnowledge.may_learn_with.Goals as goal

pub returns-in-None : goal.returns-in-None
returns-in-None g c = rw (c.spread.ensures.alone c.in-None.is, ← c.self.view_is) (search rules)

pub returns-in-Some : goal.returns-in-Some
returns-in-Some g c = record {
  holes = holes_told c.args.item (g.S.VersionSet.has c.args.below.now) c.in-Some.ensures.all (rw c.self.view_is at c.may_grow.ensures.holes);
  items = items_told c.args.item (g.S.VersionSet.has c.args.below.now) c.in-Some.ensures.all (rw c.self.view_is at c.may_grow.ensures.items);
  memory = c.may_grow.ensures.memory;
}
