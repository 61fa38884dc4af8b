use Rattle.mr_itemset.proofs.Names.{false≢true, normal_known}
use Rattle.mr_itemset.specs.ItemForm.{with_all}
use Rattle.mr_itemset.proofs.MergingLemmas.{all_have}
use Rattle.mr_itemset.proofs.SplitLimitLemmas.{holey_split}
use Rattle.mr_itemset.proofs.ValueLemmas.{known_value}
use Rattle.mr_itemset.proofs.knowledge.ItemsUpTo.would_be_holey.Goals as goal

pub returns-then-has_leeway-clause-holey : goal.returns-then-has_leeway-clause-holey
returns-then-has_leeway-clause-holey g c = (λ wrong. absurd (false≢true wrong), λ holey. absurd (c.has_leeway.ensures c.if-has_leeway.true holey))

-- what all items have already has a value
pub returns-then-not-all_lack-clause-holey : goal.returns-then-not-all_lack-clause-holey
returns-then-not-all_lack-clause-holey g c =
    let k = c.args.self.now in
    let learned = g.A.Source.has c.args.learned.now in (
      λ wrong. absurd (false≢true wrong),
      λ holey. absurd ((known_value k (with_all (normal_known k) learned) c.all_lack.ensures.normal (all_have k learned c.all_lack.ensures.normal (c.all_lack.ensures.no c.if-not-all_lack.true))).0 holey),
    )

pub returns-clause-holey : goal.returns-clause-holey
returns-clause-holey g c = holey_split c.args.self.now c.parts-parts.result.settled.now c.parts-parts.result.pending.now (g.A.Source.has c.args.learned.now) c.would_be_holey.result c.parts-parts.ensures c.would_be_holey.ensures.holey
