use Rattle.std.proofs.Common.{append-nil}
use Rattle.std.specs.Fmt.{decimal}
use Rattle.mr_draw.proofs.title.cut_title.Goals as goal

pub returns-in-CutOut : goal.returns-in-CutOut
returns-in-CutOut c = rw (c.in-CutOut.is, append-nil (decimal c.in-CutOut.stream)) c.format.ensures.ok

pub returns-in-CutIn : goal.returns-in-CutIn
returns-in-CutIn c = rw (c.in-CutIn.is, append-nil (decimal c.in-CutIn.session)) c.format-in-CutIn.ensures.ok
