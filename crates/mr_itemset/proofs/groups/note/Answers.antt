use Rattle.std.proofs.Common.{sym, ◌∙◌, inl, inr}
use Rattle.mr_itemset.proofs.Names.{false_from_ne_true, vector_eq, vectors_Decides}
use Rattle.mr_concise.specs.Order.{vectors_tied}
use Rattle.mr_itemset.proofs.groups.note.Goals as goal

pub returns-clause-kept : goal.returns-clause-kept
returns-clause-kept c v at other (inl is) = inl is
returns-clause-kept c v at other (inr is) =
    let key = c.in_ok-copy.field-0 in
    let differs = sym (vectors_tied key v) ∙ false_from_ne_true (vector_eq key v) (λ same. other (sym ((vectors_Decides key v).0 same) ∙ c.in_ok-copy.ensures)) in
    inr (c.in_ok-insert.ensures.updates.0 v ∙ rw differs is)
