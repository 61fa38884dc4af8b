use Rattle.std.proofs.Common.{append-nil}
use Rattle.mr_draw.proofs.Names.{decimal, name_text}
use Rattle.mr_draw.proofs.title.title_as.Goals as goal

pub returns-in-TakeItem : goal.returns-in-TakeItem
returns-in-TakeItem c = rw (c.in-TakeItem.is, append-nil (decimal c.in-TakeItem.source)) c.format.ensures.ok

pub returns-in-TakeMoveOut : goal.returns-in-TakeMoveOut
returns-in-TakeMoveOut c = rw c.in-TakeMoveOut.is c.format-in-TakeMoveOut.ensures.ok

pub returns-in-TakeOther : goal.returns-in-TakeOther
returns-in-TakeOther c = rw (c.in-TakeOther.is, append-nil (decimal c.in-TakeOther.source)) c.format-in-TakeOther.ensures.ok

pub returns-in-Open : goal.returns-in-Open
returns-in-Open c = rw (c.in-Open.is, append-nil (decimal c.in-Open.stream)) c.format-in-Open.ensures.ok

pub returns-in-Retire : goal.returns-in-Retire
returns-in-Retire c = rw c.in-Retire.is c.format-in-Retire.ensures.ok

pub returns-in-Release : goal.returns-in-Release
returns-in-Release c = rw (c.in-Release.is, append-nil (name_text c.in-Release.version)) c.format-in-Release.ensures.ok
