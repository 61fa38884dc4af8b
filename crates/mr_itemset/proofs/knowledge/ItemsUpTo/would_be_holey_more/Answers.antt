use Rattle.std.proofs.Common.{sym, subst}
use Rattle.mr_itemset.specs.ItemForm.{HasHoleyItem}
use Rattle.mr_itemset.proofs.SplitLimitLemmas.{more_twice, holey_more-no}
use Rattle.mr_itemset.proofs.knowledge.ItemsUpTo.would_be_holey_more.Goals as goal

pub returns-clause-yes : goal.returns-clause-yes
returns-clause-yes g c t =
    subst HasHoleyItem (sym (more_twice c.args.self.now c.parts-parts.result.settled.now c.parts-parts.result.pending.now c.args.item (g.A.Source.has c.args.learned.now) (g.S.Source.has c.args.below.now) c.parts-parts.ensures)) (c.would_be_holey_more.ensures.yes t)

pub returns-clause-no : goal.returns-clause-no
returns-clause-no g c f holey =
    holey_more-no c.args.self.now c.parts-parts.result.settled.now c.parts-parts.result.pending.now c.args.item (g.A.Source.has c.args.learned.now) (g.S.Source.has c.args.below.now) c.parts-parts.ensures (c.would_be_holey_more.ensures.no f) holey
