use Rattle.std.proofs.Common.{sym, ◌∙◌}
use Rattle.std.proofs.lemmas.Bool.{false≢true}
use Rattle.mr_itemset.proofs.EqualLemmas.{equal_from_same}
use Rattle.mr_itemset.proofs.SplitLemmas.{same_from_covers, covers_from_same}
use Rattle.mr_itemset.proofs.equal.ItemsUpToPartialEq.eq.Goals as goal

pub returns-then-covers-clause-same : goal.returns-then-covers-clause-same
returns-then-covers-clause-same g c = (
  λ t. same_from_covers c.args.self.now c.args.other.now (c.covers.ensures.covers.0 c.if-covers.true) (c.covers-then-covers.ensures.covers.0 t),
  λ same. c.covers-then-covers.ensures.covers.1 (covers_from_same c.args.other.now c.args.self.now (λ i v. sym (same i v))),
)

pub returns-then-covers-clause-value : goal.returns-then-covers-clause-value
returns-then-covers-clause-value g c = equal_from_same c.args.self.now c.args.other.now c.covers-then-covers.result c.covers.ensures.normal c.covers.ensures.other_normal (returns-then-covers-clause-same g c)

pub returns-else-covers-clause-same : goal.returns-else-covers-clause-same
returns-else-covers-clause-same g c = (
  λ t. absurd (false≢true (sym c.if-covers.false ∙ t)),
  λ same. absurd (false≢true (sym c.if-covers.false ∙ c.covers.ensures.covers.1 (covers_from_same c.args.self.now c.args.other.now same))),
)

pub returns-else-covers-clause-value : goal.returns-else-covers-clause-value
returns-else-covers-clause-value g c = equal_from_same c.args.self.now c.args.other.now c.covers.result c.covers.ensures.normal c.covers.ensures.other_normal (returns-else-covers-clause-same g c)
