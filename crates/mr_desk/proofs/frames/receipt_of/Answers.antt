use Rattle.mr_desk.proofs.Names.{Frame, IsFrameIn, err_from_is_err_and, only_receipt}
use Rattle.mr_desk.proofs.FrameLemmas.{reads-narrower}
use Rattle.mr_desk.proofs.frames.receipt_of.Goals as goal

pub returns-in_err-receipt : goal.returns-in_err-receipt
returns-in_err-receipt c =
    let p = err_from_is_err_and c.from_residual.result c.from_residual.ensures.1 in
    let bytes = c.args.bytes.now in
    rw (p.1, p.2) (reads-narrower Frame Frame only_receipt bytes (IsFrameIn bytes) (IsFrameIn bytes) _ c.in_err-receipt.ensures)
