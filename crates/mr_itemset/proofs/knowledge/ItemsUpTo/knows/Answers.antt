use Rattle.std.proofs.Common.{refl}
use Rattle.mr_itemset.proofs.SplitLemmas.{split_at}
use Rattle.mr_itemset.proofs.knowledge.ItemsUpTo.knows.Goals as goal

pub returns-then-contains : goal.returns-then-contains
returns-then-contains g c =
    rw (split_at c.args.self.now c.parts-parts.result.settled.now c.parts-parts.result.pending.now c.args.item c.args.version c.parts-parts.ensures, ← c.contains.ensures, c.if-contains.true) refl

pub returns-else-contains : goal.returns-else-contains
returns-else-contains g c =
    rw (split_at c.args.self.now c.parts-parts.result.settled.now c.parts-parts.result.pending.now c.args.item c.args.version c.parts-parts.ensures, ← c.contains.ensures, c.if-contains.false) c.knows.ensures
