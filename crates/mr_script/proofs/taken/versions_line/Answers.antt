use Rattle.std.proofs.Common.{append_assoc}
use Rattle.mr_script.proofs.Lines.{IfOk-same_text}
use Rattle.mr_script.proofs.taken.versions_line.Goals as goal

pub returns : goal.returns
returns c = IfOk-same_text c.with_names.result _ _ c.with_names.ensures (rw c.in_ok-format.ensures.ok (simp append_assoc))
