use Rattle.std.proofs.Common.{arith, ◌∙◌, ap, ◌≡◌}
use Rattle.mr_concise.proofs.Names.{Extent, column_of}
use Rattle.mr_concise.proofs.LastLemmas.{bound-is_last}
use Rattle.mr_concise.proofs.vector.ConciseVector.last.Goals as goal

pub returns-then-upto-gt0 : goal.returns-then-upto-gt0
returns-then-upto-gt0 c =
    let upto : c.upto-upto.result ≡ (column_of c.args.self.now c.args.author).upto = c.upto-upto.ensures ∙ ap (λ (e : Extent). e.upto) (rw (c.deref.ensures.value, c.self.view_is) at c.column_at.ensures) in
    let some = c.if-upto-gt0.true in
    rw upto (bound-is_last c.args.self.now c.args.author (rw c.self.view_is at c.self.invariant) (omega arith))
