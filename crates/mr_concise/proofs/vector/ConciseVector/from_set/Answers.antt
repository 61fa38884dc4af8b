use Rattle.mr_concise.proofs.LoneLemmas.{few-from_vector}
use Rattle.mr_concise.proofs.vector.ConciseVector.from_set.Goals as goal

pub returns-in-Ok-Some-clause-holes : goal.returns-in-Ok-Some-clause-holes
returns-in-Ok-Some-clause-holes g c =
    let vector = rw c.in-Ok-Some.field-0-is at c.in-Ok-Some.ensures.vector in
    let means = rw c.in-Ok-Some.field-0-is at c.in-Ok-Some.ensures.means in
    (λ wrong. absurd (cc), λ many. absurd (few-from_vector c.in-Ok-Some.columns.items (g.S.VersionSet.has c.args.set.now) vector means many))
