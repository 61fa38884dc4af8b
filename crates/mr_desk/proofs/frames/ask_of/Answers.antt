use Rattle.mr_desk.proofs.Names.{Frame, IsFrameIn, err_from_is_err_and, only_ask}
use Rattle.mr_desk.proofs.FrameLemmas.{reads-narrower}
use Rattle.mr_desk.proofs.frames.ask_of.Goals as goal

pub returns-in_err-ask : goal.returns-in_err-ask
returns-in_err-ask c =
    let p = err_from_is_err_and c.from_residual.result c.from_residual.ensures.1 in
    let bytes = c.args.bytes.now in
    rw (p.1, p.2) (reads-narrower Frame Frame only_ask bytes (IsFrameIn bytes) (IsFrameIn bytes) _ c.in_err-ask.ensures)
