use Rattle.mr_concise.proofs.Names.{both, vector_has, with_columns}
use Rattle.mr_concise.proofs.LoneLemmas.{few-from_vector}
use Rattle.mr_concise.proofs.union.unite_columns.Goals as goal

pub returns-in_default-clause-holes : goal.returns-in_default-clause-holes
returns-in_default-clause-holes c =
    let vector = rw c.in-Ok-Some.field-0-is at c.in-Ok-Some.ensures.vector in
    let united = rw c.in-Ok-Some.field-0-is at c.in-Ok-Some.ensures.united in
    (λ wrong. absurd (cc), λ many. absurd (few-from_vector (with_columns c.in-Ok-Some.changed.items c.args.columns.now.items) (both (vector_has c.args.columns.now.items) (vector_has c.args.other.now)) (rw c.deref.ensures.value at vector) (rw c.deref.ensures.value at united) many))

pub returns-clause-holes : goal.returns-clause-holes
returns-clause-holes c =
    let vector = rw c.in-Ok-Some.field-0-is at c.in-Ok-Some.ensures.vector in
    let united = rw c.in-Ok-Some.field-0-is at c.in-Ok-Some.ensures.united in
    (λ wrong. absurd (cc), λ many. absurd (few-from_vector (with_columns c.in-Ok-Some.changed.items c.args.columns.now.items) (both (vector_has c.args.columns.now.items) (vector_has c.args.other.now)) (rw c.deref.ensures.value at vector) (rw c.deref.ensures.value at united) many))
