use Rattle.std.proofs.Common.{List, ℕ, subst, sym}
use Rattle.mr_frames.specs.Stream.{Begins}
use Rattle.mr_frames.proofs.StreamLaws.{begins_decoded}
use Rattle.mr_frames.proofs.reader.take_frame.Goals as goal

pub returns-clause-exact : goal.returns-clause-exact
returns-clause-exact c =
    subst (λ (left : List ℕ). Begins c.args.rest.now.items c.in_ok-frame.frame left) (sym c.advance.ensures.items)
    (rw c.as_slice-2.ensures at (begins_decoded c.as_slice-2.result.now c.in_ok-frame.frame c.in_ok-frame.used c.in_ok-frame.ensures.exact))
