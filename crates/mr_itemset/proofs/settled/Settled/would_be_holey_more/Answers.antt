use Rattle.std.proofs.Common.{sym, ◌∙◌, subst}
use Rattle.mr_itemset.proofs.Names.{ColumnsHaveAtMost, Covers, HasHoleyItem, false≢true, normal_known, vector_has, vector_of, with_below}
use Rattle.mr_forms.specs.Sets.{both}
use Rattle.mr_itemset.specs.ItemForm.{with_all}
use Rattle.mr_itemset.proofs.AtMostLemmas.{few_with}
use Rattle.mr_itemset.proofs.FoldedLemmas.{same_pairs}
use Rattle.mr_itemset.proofs.KeptLemmas.{covered_set}
use Rattle.mr_itemset.proofs.WithLemmas.{holey_with, holey_learned}
use Rattle.mr_itemset.proofs.settled.Settled.would_be_holey_more.Goals as goal

pub returns-clause-yes : goal.returns-clause-yes
returns-clause-yes g c t = holey_with c.args.self.now (both (g.A.Source.has c.args.learned.now) (vector_has c.args.pending.now)) (g.S.Source.has c.args.below.now) c.args.item (rw c.vector_of-vector.ensures.is at (c.would_have_too_many.ensures.0 t))

pub returns-clause-no : goal.returns-clause-no
returns-clause-no g c f holey =
    holey_learned c.args.self.now (both (g.A.Source.has c.args.learned.now) (vector_has c.args.pending.now)) (g.S.Source.has c.args.below.now) c.args.item
    (λ many. false≢true (sym f ∙ c.would_have_too_many.ensures.1 (rw (← c.vector_of-vector.ensures.is) at many))) holey

pub returns-then-not-lacks-clause-no : goal.returns-then-not-lacks-clause-no
returns-then-not-lacks-clause-no g c _ holey =
    let learned = both (g.A.Source.has c.args.learned.now) (vector_has c.args.pending.now) in
    let covers : Covers (both learned (vector_has (vector_of c.args.self.now c.args.item))) (g.S.Source.has c.args.below.now) = rw c.vector_of-vector.ensures.is at (c.lacks.ensures.no c.if-not-lacks.true) in
    subst HasHoleyItem
    (sym (same_pairs (with_all (normal_known c.args.self.now) learned) (with_below (with_all (normal_known c.args.self.now) learned) c.args.item (g.S.Source.has c.args.below.now)) (covered_set c.args.self.now learned c.args.item (g.S.Source.has c.args.below.now) covers)))
    holey

pub returns-then-fit_together-clause-no : goal.returns-then-fit_together-clause-no
returns-then-fit_together-clause-no g c _ holey =
    let few : ColumnsHaveAtMost (both (g.S.Source.has c.args.below.now) (vector_has (vector_of c.args.self.now c.args.item))) c.most_holes-own.result = rw c.vector_of-vector.ensures.is at c.most_holes-own.ensures.most in
    holey_learned c.args.self.now (both (g.A.Source.has c.args.learned.now) (vector_has c.args.pending.now)) (g.S.Source.has c.args.below.now) c.args.item
    (few_with c.args.pending.now (g.A.Source.has c.args.learned.now) (g.S.Source.has c.args.below.now) (vector_has (vector_of c.args.self.now c.args.item)) c.most_holes-own.result c.most_holes.result c.most_holes-added.result c.author_columns-columns.ensures.vector few c.most_holes.ensures.most c.most_holes-added.ensures.most (c.fit_together.ensures c.if-fit_together.true)) holey
