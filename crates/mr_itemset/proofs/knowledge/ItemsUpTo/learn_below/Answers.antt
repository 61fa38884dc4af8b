use Rattle.std.proofs.Common.{refl}
use Rattle.mr_itemset.specs.Normal.{normal_known}
use Rattle.mr_itemset.proofs.RefusalLemmas.{second_holes, second_items}
use Rattle.mr_itemset.proofs.ValueLemmas.{known_value}
use Rattle.mr_itemset.proofs.knowledge.ItemsUpTo.learn_below.Goals as goal

pub returns-clause-holes : goal.returns-clause-holes
returns-clause-holes g c = second_holes _ _ (known_value c.args.self.now (normal_known c.args.self.now) c.parts-parts.ensures.normal (λ i v. refl)) c.grow.ensures.holes

pub returns-clause-items : goal.returns-clause-items
returns-clause-items g c = second_items _ _ (known_value c.args.self.now (normal_known c.args.self.now) c.parts-parts.ensures.normal (λ i v. refl)) c.grow.ensures.items
