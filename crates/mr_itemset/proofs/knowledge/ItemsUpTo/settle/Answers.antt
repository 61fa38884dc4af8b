use Rattle.std.proofs.Common.{ap, sym, ◌∙◌}
use Rattle.mr_itemset.proofs.Names.{Pairs, normal_known, vector_has, with_some_below}
use Rattle.mr_itemset.proofs.SplitLemmas.{all_twice}
use Rattle.mr_itemset.proofs.knowledge.ItemsUpTo.settle.Goals as goal

pub returns-clause-ok : goal.returns-clause-ok
returns-clause-ok g c =
    let set = g.S.Source.has c.args.below.now in
    rw c.of.ensures
    (λ i v. c.in_ok-grown.ensures i v
    ∙ ap (λ (p : Pairs). with_some_below p c.args.item.now set i v) (sym (all_twice (normal_known c.args.self.now) (normal_known c.parts-parts.result.settled.now) (vector_has c.parts-parts.result.pending.now) (g.A.Source.has c.args.learned.now) c.parts-parts.ensures.known)))
