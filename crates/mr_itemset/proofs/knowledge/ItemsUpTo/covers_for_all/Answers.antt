use Rattle.std.proofs.Common.{true, false}
use Rattle.mr_itemset.proofs.SplitLemmas.{covers_split, lacks_split-pending, lacks_split-settled, flipped}
use Rattle.mr_itemset.proofs.knowledge.ItemsUpTo.covers_for_all.Goals as goal

pub returns-then-all_lack-clause-no : goal.returns-then-all_lack-clause-no
returns-then-all_lack-clause-no g c _ = lacks_split-pending c.args.self.now c.args.other.now c.parts-parts.result.settled.now c.parts-parts.result.pending.now c.parts-parts.ensures (c.all_lack.ensures.yes c.if-all_lack.true)

pub returns-clause-yes : goal.returns-clause-yes
returns-clause-yes g c t =
    covers_split c.args.self.now c.args.other.now c.parts-parts.result.settled.now c.parts-parts.result.pending.now c.parts-parts.ensures (c.all_lack.ensures.no c.if-all_lack.false)
    (rw c.for_all.ensures.is at (c.all_lack-2.ensures.no (flipped c.all_lack-2.result true t)))

pub returns-clause-no : goal.returns-clause-no
returns-clause-no g c f = lacks_split-settled c.args.self.now c.args.other.now c.parts-parts.result.settled.now c.parts-parts.result.pending.now c.parts-parts.ensures (rw c.for_all.ensures.is at (c.all_lack-2.ensures.yes (flipped c.all_lack-2.result false f)))
