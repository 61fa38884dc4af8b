use Rattle.std.proofs.Common.{◌≡◌}
use Rattle.mr_itemset.specs.Equal.{normal_eq}
use Rattle.mr_itemset.proofs.EqualLemmas.{normals_Decide}
use Rattle.mr_itemset.proofs.equal.SparingKnowledgePartialEq.eq.Goals as goal

pub returns-clause-same : goal.returns-clause-same
returns-clause-same c =
    let value : c.eq.result ≡ normal_eq c.args.self.now c.args.other.now = rw (c.items.ensures.is, c.items-2.ensures.is) at c.eq.ensures in
    rw value (normals_Decide c.args.self.now c.args.other.now c.items.ensures.normal c.items-2.ensures.normal)
