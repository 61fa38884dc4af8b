use Rattle.mr_itemset.specs.Normal.{normal_known}
use Rattle.mr_itemset.proofs.AloneLemmas.{alone_holes, alone_items, alone_refused}
use Rattle.mr_itemset.proofs.knowledge.ItemsUpTo.may_learn_alone_with.Goals as goal

pub returns-in_err-may_learn_below-clause-items : goal.returns-in_err-may_learn_below-clause-items
returns-in_err-may_learn_below-clause-items g c = alone_refused c.in_err-may_learn_below.field-0.0 c.may_learn_below.result c.from_residual.result c.from_residual.ensures.1 c.in_err-may_learn_below.was c.may_learn_below.ensures.memory c.may_learn_below.ensures.holes c.may_learn_below.ensures.items

pub returns : goal.returns
returns g c = record {
  holes = alone_holes (normal_known c.args.self.now) c.args.item c.args.version (g.S.Source.has c.args.below.now) c.in_ok-may_learn_below.ensures.holes c.in_ok-may_learn_below.ensures.items c.may_learn_below-2.ensures.holes;
  items = alone_items (normal_known c.args.self.now) c.args.item c.args.version (g.S.Source.has c.args.below.now) c.in_ok-may_learn_below.ensures.holes c.in_ok-may_learn_below.ensures.items c.may_learn_below-2.ensures.items;
  memory = c.may_learn_below-2.ensures.memory;
}
