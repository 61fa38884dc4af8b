use Rattle.mr_itemset.proofs.Names.{All-weaker, HasValue, after_each, items_form, normal_known, sparing_form}
use Rattle.mr_itemset.specs.declared.sparing.TheConstants.{MAX_LISTED_ITEMS}
use Rattle.mr_itemset.proofs.sparing.SparingKnowledge.with_fragments.Goals as goal

pub returns-clause-value : goal.returns-clause-value
returns-clause-value g c =
    rw (← c.self.view_is)
    (All-weaker (HasValue (items_form MAX_LISTED_ITEMS)) (HasValue sparing_form) (λ p value. value) (after_each g.S.VersionSet.has (normal_known c.self.inside.items) c.args.fragments.now) c.in_ok-with_fragments.ensures.value)
