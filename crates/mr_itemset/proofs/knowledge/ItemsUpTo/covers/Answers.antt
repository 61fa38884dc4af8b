use Rattle.std.proofs.Common.{sym, ◌∙◌, inl, inr}
use Rattle.mr_itemset.proofs.Names.{cases_Bool, false≢true, vector_has}
use Rattle.mr_itemset.proofs.SplitLemmas.{covers_yes, covers_all-from, covers_listed-from}
use Rattle.mr_itemset.proofs.WithLemmas.{lacks-not_covers}
use Rattle.mr_itemset.proofs.knowledge.ItemsUpTo.covers.Goals as goal

pub returns-then-covers_for_all-clause-covers : goal.returns-then-covers_for_all-clause-covers
returns-then-covers_for_all-clause-covers g c = (
  λ t. covers_yes c.args.self.now c.args.other.now c.parts.result.settled.now c.parts.result.pending.now c.covers_for_all.ensures.normal c.parts.ensures (c.covers_for_all.ensures.yes c.if-covers_for_all.true) (c.covers_listed.ensures.yes t),
  λ covers. elim (cases_Bool c.covers_listed.result) [
    | inl t ↦ t
    | inr f ↦ absurd (c.covers_listed.ensures.no f (covers_listed-from c.args.self.now c.args.other.now c.parts.result.settled.now c.parts.result.pending.now c.parts.ensures covers))
  ],
)

pub returns-else-covers_for_all-clause-covers : goal.returns-else-covers_for_all-clause-covers
returns-else-covers_for_all-clause-covers g c = (
  λ t. absurd (false≢true (sym c.if-covers_for_all.false ∙ t)),
  λ covers. absurd (lacks-not_covers (vector_has c.args.self.now.all) (vector_has c.args.other.now.all) (c.covers_for_all.ensures.no c.if-covers_for_all.false) (covers_all-from c.args.self.now c.args.other.now covers)),
)
