-- What was written is a front of the bytes, and a write adds some of what is left.
use Rattle.std.proofs.Common.{◌-◌, ◌++◌, length, take, drop, sym, ap, subst, ◌∙◌, arith, length-take}
use Rattle.mr_talk.proofs.Names.{Appends, Appends-kept, Appends-trans, take-add, take-take}
use Rattle.mr_talk.proofs.LineLaws.{begun_take, holds_on_err}
use Rattle.mr_talk.proofs.line.write_bytes.Goals as goal

pub pieces-preserved : goal.pieces-preserved
pieces-preserved g c =
    let done = c.pieces.done in
    let count = c.in_ok-done.field-0 in
    let bytes = c.args.bytes.now in
    let within = c.pieces.invariant.within in
    let fits = c.in_ok-done.ensures.within in
    let most = length-take (length bytes - done) (drop done bytes) in
    let joined = ap (λ l. take done bytes ++ l) (take-take count (length bytes - done) (drop done bytes) (omega arith)) ∙ sym (take-add done count bytes) in
    record {
      within = omega arith;
      written = subst (Appends _ _) joined (Appends-trans _ _ _ _ _ c.pieces.invariant.written c.in_ok-done.ensures.written);
    }

pub returns-in_err-done-clause-begun : goal.returns-in_err-done-clause-begun
returns-in_err-done-clause-begun g c =
    holds_on_err c.from_residual.result (begun_take _ _ c.pieces.done c.args.bytes.now (Appends-kept _ (g.W.Write.contents c.pieces.output) _ _ c.pieces.invariant.written c.in_err-done.ensures.unchanged))

pub returns-clause-begun : goal.returns-clause-begun
returns-clause-begun g c = begun_take _ _ c.pieces.done c.args.bytes.now c.pieces.invariant.written
