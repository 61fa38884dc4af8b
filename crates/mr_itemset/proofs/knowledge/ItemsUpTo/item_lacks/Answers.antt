use Rattle.mr_itemset.proofs.SplitLemmas.{split_at, lacks_same, covers_same}
use Rattle.mr_forms.specs.Sets.{both}
use Rattle.mr_itemset.proofs.Names.{normal_known, vector_has}
use Rattle.mr_itemset.proofs.knowledge.ItemsUpTo.item_lacks.Goals as goal

pub returns-clause-yes : goal.returns-clause-yes
returns-clause-yes g c t =
    lacks_same (normal_known c.args.self.now c.args.item) (both (vector_has c.parts-parts.result.pending.now) (normal_known c.parts-parts.result.settled.now c.args.item)) (g.S.Source.has c.args.set.now)
    (λ v. split_at c.args.self.now c.parts-parts.result.settled.now c.parts-parts.result.pending.now c.args.item v c.parts-parts.ensures) (rw c.vector_of.ensures.is at (c.lacks.ensures.yes t))

pub returns-clause-no : goal.returns-clause-no
returns-clause-no g c f =
    covers_same (normal_known c.args.self.now c.args.item) (both (vector_has c.parts-parts.result.pending.now) (normal_known c.parts-parts.result.settled.now c.args.item)) (g.S.Source.has c.args.set.now)
    (λ v. split_at c.args.self.now c.parts-parts.result.settled.now c.parts-parts.result.pending.now c.args.item v c.parts-parts.ensures) (rw c.vector_of.ensures.is at (c.lacks.ensures.no f))
