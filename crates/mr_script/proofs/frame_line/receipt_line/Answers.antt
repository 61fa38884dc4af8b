use Rattle.mr_script.proofs.Names.{decimal, name_text}
use Rattle.mr_script.proofs.Lines.{IfOk-same_text}
use Rattle.mr_script.proofs.FrameLemmas.{receipt_written}
use Rattle.mr_script.proofs.frame_line.receipt_line.Goals as goal

pub returns : goal.returns
returns c =
    IfOk-same_text c.format.result _ _ c.format.ensures.ok
    (rw (c.version-version.ensures, c.creator-item.ensures, c.item.ensures)
    (receipt_written (decimal c.args.receipt.now.giver) (name_text c.args.receipt.now.descent.version) (name_text c.args.receipt.now.descent.item)))
