use Rattle.std.proofs.Common.{refl}
use Rattle.mr_itemset.proofs.KeptLemmas.{covered_set}
use Rattle.mr_itemset.proofs.settled.Settled.gaining.Goals as goal

pub returns-in_default-clause-none : goal.returns-in_default-clause-none
returns-in_default-clause-none g c _ = rw c.in_default.is (λ i v. refl)

pub returns-then-lacks-clause-lacks : goal.returns-then-lacks-clause-lacks
returns-then-lacks-clause-lacks g c = rw c.vector_of.ensures.is at (c.lacks.ensures.yes c.if-lacks.true)

pub returns-clause-none : goal.returns-clause-none
returns-clause-none g c _ = rw c.in-Some.is (covered_set c.args.self.now (g.A.Source.has c.args.learned.now) c.in-Some.item (g.S.Source.has c.args.below.now) (rw c.vector_of.ensures.is at (c.lacks.ensures.no c.if-lacks.false)))
