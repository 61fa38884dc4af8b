use Rattle.std.proofs.Common.{sym, ◌∙◌, lit<}
use Rattle.mr_itemset.proofs.Names.{IsSame, false≢true, vector_has, vector_of}
use Rattle.mr_forms.specs.Sets.{both}
use Rattle.mr_itemset.proofs.ItemLemmas.{item_kept, item_placed, item_normal}
use Rattle.mr_itemset.proofs.settled.Settled.add_to_item.Goals as goal

pub returns-then-eq-clause-ok : goal.returns-then-eq-clause-ok
returns-then-eq-clause-ok g c =
    let grown : IsSame (vector_has c.in-Ok.vector) (both (g.A.Source.has c.args.added.now) (vector_has (vector_of c.args.self.now c.args.item))) = rw c.vector_of.ensures.is at c.in-Ok.ensures.ok in
    let same : IsSame (vector_has c.in-Ok.vector) (vector_has c.args.self.now.all) = rw c.for_all.ensures.is at (c.eq.ensures.same.0 c.if-eq.true) in
    item_kept c.args.self.now (g.A.Source.has c.args.added.now) c.args.item c.in-Ok.vector c.for_all.ensures.normal grown same

pub list-requires : goal.list-requires
list-requires g c =
    let grown : IsSame (vector_has c.in-Ok.vector) (both (g.A.Source.has c.args.added.now) (vector_has (vector_of c.args.self.now c.args.item))) = rw c.vector_of.ensures.is at c.in-Ok.ensures.ok in (
      lit< tt,
      item_normal c.args.self.now (g.A.Source.has c.args.added.now) c.args.item c.in-Ok.vector c.for_all.ensures.normal c.requires c.in-Ok.ensures.canonical.columns_ok grown
          (λ same. false≢true (sym c.if-eq.false ∙ c.eq.ensures.same.1 (rw (← c.for_all.ensures.is) at same))),
    )

pub returns-clause-ok : goal.returns-clause-ok
returns-clause-ok g c i v =
    let grown : IsSame (vector_has c.in-Ok.vector) (both (g.A.Source.has c.args.added.now) (vector_has (vector_of c.args.self.now c.args.item))) = rw c.vector_of.ensures.is at c.in-Ok.ensures.ok in
    rw c.in_ok-list.ensures.ok (item_placed c.args.self.now (g.A.Source.has c.args.added.now) c.args.item c.in-Ok.vector grown i v)
