use Rattle.mr_itemset.proofs.SplitLemmas.{split_all, lacks_same, covers_same}
use Rattle.mr_forms.specs.Sets.{both}
use Rattle.mr_concise.specs.Vector.{vector_has}
use Rattle.mr_itemset.proofs.knowledge.ItemsUpTo.all_lack.Goals as goal

pub returns-clause-yes : goal.returns-clause-yes
returns-clause-yes g c t =
    lacks_same (vector_has c.args.self.now.all) (both (vector_has c.parts-parts.result.pending.now) (vector_has c.parts-parts.result.settled.now.all)) (g.S.Source.has c.args.set.now)
    (split_all c.args.self.now c.parts-parts.result.settled.now c.parts-parts.result.pending.now c.parts-parts.ensures) (rw c.for_all.ensures.is at (c.lacks.ensures.yes t))

pub returns-clause-no : goal.returns-clause-no
returns-clause-no g c f =
    covers_same (vector_has c.args.self.now.all) (both (vector_has c.parts-parts.result.pending.now) (vector_has c.parts-parts.result.settled.now.all)) (g.S.Source.has c.args.set.now)
    (split_all c.args.self.now c.parts-parts.result.settled.now c.parts-parts.result.pending.now c.parts-parts.ensures) (rw c.for_all.ensures.is at (c.lacks.ensures.no f))
