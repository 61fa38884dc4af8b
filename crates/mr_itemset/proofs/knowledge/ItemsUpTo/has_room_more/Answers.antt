use Rattle.std.proofs.Common.{sym, subst}
use Rattle.mr_itemset.specs.ItemForm.{ListsTooMany}
use Rattle.mr_itemset.proofs.SplitLimitLemmas.{more_twice, room_more-yes}
use Rattle.mr_itemset.proofs.knowledge.ItemsUpTo.has_room_more.Goals as goal

pub returns-clause-yes : goal.returns-clause-yes
returns-clause-yes g c t many =
    room_more-yes c.args.self.now c.parts-parts.result.settled.now c.parts-parts.result.pending.now c.args.item (g.A.Source.has c.args.learned.now) (g.S.Source.has c.args.below.now) c.parts-parts.ensures (c.has_room_with.ensures.yes t) many

pub returns-clause-no : goal.returns-clause-no
returns-clause-no g c f =
    subst (ListsTooMany g.row.LIMIT) (sym (more_twice c.args.self.now c.parts-parts.result.settled.now c.parts-parts.result.pending.now c.args.item (g.A.Source.has c.args.learned.now) (g.S.Source.has c.args.below.now) c.parts-parts.ensures)) (c.has_room_with.ensures.no f)
