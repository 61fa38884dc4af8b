use Rattle.std.proofs.Common.{ap, sym, ◌∙◌, nat_lt, ℕ}
use Rattle.mr_itemset.proofs.SparingLemmas.{spare_told, holes_as_known}
use Rattle.mr_itemset.proofs.knowledge.ItemsUpTo.has_holes_to_spare.Goals as goal

pub returns-clause-column : goal.returns-clause-column
returns-clause-column g c =
    spare_told c.args.self.now c.parts-parts.result.settled.now c.parts-parts.result.pending.now c.args.author 16 c.both_have_fewer_holes.result c.parts-parts.ensures
    (rw c.for_all.ensures.is at c.both_have_fewer_holes.ensures.fewer) (rw c.for_all.ensures.is at c.both_have_fewer_holes.ensures.no)

pub returns-clause-spare : goal.returns-clause-spare
returns-clause-spare g c = returns-clause-column g c ∙ ap (λ (n : ℕ). nat_lt n 16) (sym (holes_as_known c.args.self.now c.args.author c.parts-parts.ensures.normal))
