use Rattle.mr_itemset.proofs.Names.{normal_known, on_ok_weaker}
use Rattle.mr_itemset.proofs.AloneLemmas.{alone_known, alone_holes, alone_items, alone_refused}
use Rattle.mr_itemset.proofs.knowledge.ItemsUpTo.learn_alone_with.Goals as goal

pub returns-in_err-may_learn_below-clause-items : goal.returns-in_err-may_learn_below-clause-items
returns-in_err-may_learn_below-clause-items g c = alone_refused c.in_err-may_learn_below.field-0.0 c.may_learn_below.result c.from_residual.result c.from_residual.ensures.1 c.in_err-may_learn_below.was c.may_learn_below.ensures.memory c.may_learn_below.ensures.holes c.may_learn_below.ensures.items

pub returns : goal.returns
returns g c = record {
  ok = on_ok_weaker c.learn_below.result (alone_known (normal_known c.args.self.now) c.args.item c.args.version (g.S.Source.has c.args.below.now)) c.learn_below.ensures.ok;
  holes = alone_holes (normal_known c.args.self.now) c.args.item c.args.version (g.S.Source.has c.args.below.now) c.in_ok-may_learn_below.ensures.holes c.in_ok-may_learn_below.ensures.items c.learn_below.ensures.holes;
  items = alone_items (normal_known c.args.self.now) c.args.item c.args.version (g.S.Source.has c.args.below.now) c.in_ok-may_learn_below.ensures.holes c.in_ok-may_learn_below.ensures.items c.learn_below.ensures.items;
  err = c.learn_below.ensures.err;
}
