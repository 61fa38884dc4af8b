use Rattle.std.proofs.Common.{sym, ◌∙◌}
use Rattle.mr_forms.specs.Sets.{both}
use Rattle.mr_itemset.proofs.Names.{IsVectorOf, vector_has, vector_of}
use Rattle.mr_itemset.proofs.ItemLemmas.{with_item, item_normal, item_placed, more_than_all}
use Rattle.mr_itemset.proofs.KeptLemmas.{sparse_item, at_most_more, same_holes}
use Rattle.mr_itemset.proofs.settled.Settled.grown_item.Goals as goal

pub returns-clause-fits : goal.returns-clause-fits
returns-clause-fits g c =
    let grown : IsVectorOf (both (g.S.Source.has c.args.set.now) (vector_has (vector_of c.args.self.now c.args.item))) c.in-Some.vector = rw c.in-Some.is at c.in_ok-vector.ensures.vector in
    item_normal c.args.self.now (g.S.Source.has c.args.set.now) c.args.item c.in-Some.vector c.in_ok-vector.ensures.normal (rw c.in-Some.is at c.in_ok-vector.ensures.room) grown.columns_ok grown.has
    (more_than_all c.args.self.now (g.S.Source.has c.args.set.now) c.args.item c.in-Some.vector c.in_ok-vector.ensures.normal c.requires.lacks grown.has)

pub returns-clause-known : goal.returns-clause-known
returns-clause-known g c =
    let grown : IsVectorOf (both (g.S.Source.has c.args.set.now) (vector_has (vector_of c.args.self.now c.args.item))) c.in-Some.vector = rw c.in-Some.is at c.in_ok-vector.ensures.vector in
    item_placed c.args.self.now (g.S.Source.has c.args.set.now) c.args.item c.in-Some.vector grown.has

pub returns-clause-sparse : goal.returns-clause-sparse
returns-clause-sparse g c =
    let grown : IsVectorOf (both (g.S.Source.has c.args.set.now) (vector_has (vector_of c.args.self.now c.args.item))) c.in-Some.vector = rw c.in-Some.is at c.in_ok-vector.ensures.vector in
    sparse_item c.args.self.now (with_item c.args.self.now c.args.item c.in-Some.vector) c.args.item (g.S.Source.has c.args.set.now) c.args.most c.higher-holes.result c.in_ok-vector.ensures.normal (returns-clause-fits g c) c.requires.sparse c.higher-holes.ensures.second
    (λ columns is. at_most_more columns c.most_holes.result c.higher-holes.result c.higher-holes.ensures.first
    (same_holes c.in-Some.vector columns c.most_holes.result grown.columns_ok is.columns_ok (λ v. grown.has v ∙ sym (is.has v)) c.most_holes.ensures.most))
    (returns-clause-known g c)
