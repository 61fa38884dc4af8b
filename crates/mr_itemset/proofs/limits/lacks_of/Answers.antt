use Rattle.std.proofs.Common.{sym, ◌∙◌, arith, inl, inr}
use Rattle.std.proofs.lemmas.Bool.{false≢true, cases_lt, cases_eq}
use Rattle.mr_itemset.proofs.limits.lacks_of.Goals as goal

pub returns-clause-no : goal.returns-clause-no
returns-clause-no g c _ k in' =
    elim (cases_lt k c.loop-first.from) [
      | inl before ↦ elim (cases_eq k 0) [
        | inl none ↦ absurd (false≢true (sym c.next_out-none.ensures.zero ∙ (rw none at in')))
        | inr some ↦ c.loop-first.invariant.covered k (omega arith) before in'
      ]
      | inr after ↦ absurd (false≢true (sym (c.in_default.ensures.next k after) ∙ in'))
    ]
