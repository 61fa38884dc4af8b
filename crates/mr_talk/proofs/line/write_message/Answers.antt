-- The three writes, one behind another: of the last that was tried a beginning was written.
use Rattle.std.proofs.Common.{[], ◌∷◌, subst}
use Rattle.std.proofs.lemmas.Result.{on_err_weaker}
use Rattle.mr_talk.specs.Line.{IsBegun}
use Rattle.mr_talk.proofs.LineLaws.{begun_behind, begun_front, spelled_in_pieces, holds_on_err}
use Rattle.mr_talk.proofs.line.write_message.Goals as goal

pub returns-in_err-write_bytes-clause-begun : goal.returns-in_err-write_bytes-clause-begun
returns-in_err-write_bytes-clause-begun g c = holds_on_err c.from_residual.result (rw (← c.byte.ensures) (begun_front _ _ (c.byte.result ∷ []) _ c.in_err-write_bytes.ensures.begun))

pub returns-in_err-write_bytes-2-clause-begun : goal.returns-in_err-write_bytes-2-clause-begun
returns-in_err-write_bytes-2-clause-begun g c =
    let whole = spelled_in_pieces (record { kind = c.args.kind; bytes = c.args.bytes.now }) c.byte.result c.to_be_bytes.result c.byte.ensures c.to_be_bytes.ensures in
    let begun = begun_front _ _ c.to_be_bytes.result c.args.bytes.now c.in_err-write_bytes-2.ensures.begun in
    holds_on_err c.from_residual-in_err-write_bytes-2.result (subst (IsBegun _ _) whole (begun_behind _ (g.W.Write.contents c.write_bytes.new.output) _ (c.byte.result ∷ []) _ c.in_ok-write_bytes.ensures.written begun))

pub returns-clause-begun : goal.returns-clause-begun
returns-clause-begun g c =
    let whole = spelled_in_pieces (record { kind = c.args.kind; bytes = c.args.bytes.now }) c.byte.result c.to_be_bytes.result c.byte.ensures c.to_be_bytes.ensures in
    let long = g.W.Write.contents c.write_bytes-2.new.output in
    on_err_weaker c.write_bytes-3.result
    (λ h. subst (IsBegun _ _) whole
    (begun_behind _ (g.W.Write.contents c.write_bytes.new.output) _ (c.byte.result ∷ []) _ c.in_ok-write_bytes.ensures.written (begun_behind _ long _ c.to_be_bytes.result _ c.in_ok-write_bytes-2.ensures.written h)))
    c.write_bytes-3.ensures.begun
