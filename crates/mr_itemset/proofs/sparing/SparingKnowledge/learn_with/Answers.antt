use Rattle.std.proofs.Common.{rules}
use Rattle.std.proofs.lemmas.Result.{on_ok_weaker}
use Rattle.mr_itemset.proofs.SparingLemmas.{known_told, holes_told, items_told}
use Rattle.mr_itemset.proofs.sparing.SparingKnowledge.learn_with.Goals as goal

pub returns-in-None : goal.returns-in-None
returns-in-None g c = rw (c.spread.ensures.alone c.in-None.is, ← c.self.view_is) (search rules)

pub returns-in-Some : goal.returns-in-Some
returns-in-Some g c = record {
  ok = on_ok_weaker c.grow.result (known_told c.args.item (g.S.VersionSet.has c.args.below.now) c.in-Some.ensures.all) (rw c.self.view_is at c.grow.ensures.ok);
  holes = holes_told c.args.item (g.S.VersionSet.has c.args.below.now) c.in-Some.ensures.all (rw c.self.view_is at c.grow.ensures.holes);
  items = items_told c.args.item (g.S.VersionSet.has c.args.below.now) c.in-Some.ensures.all (rw c.self.view_is at c.grow.ensures.items);
  err = rw (← c.self.view_is) c.grow.ensures.err;
}
