-- the answers that the events of a sync may have, and its counts
use Rattle.std.specs.Prelude.{◌+◌, Ok, Err}
use Rattle.mr_replica.specs.declared.event.Reply.TheVariants as reply
use Rattle.mr_world.specs.declared.answer.Answer.{Answer}
use Rattle.mr_world.specs.declared.answer.Answer.TheVariants.{Stepped}
use Rattle.mr_script.specs.declared.sync.Told.{Told}
use Rattle.mr_script.specs.declared.sync.Told.TheVariants as told
use Rattle.mr_script.specs.declared.sync_line.SyncCounts.{SyncCounts}

-- ---- which answers there are

-- the answers that a pull may have
abbrev pub MayOpenSession : Answer → Type 0
MayOpenSession (Stepped (Ok (reply.Asked ask))) = Unit {0}
MayOpenSession (Stepped (Err refusal)) = Unit {0}
MayOpenSession answer = ⊥

-- the answers that a request may have
abbrev pub MayOpenStream : Answer → Type 0
MayOpenStream (Stepped (Ok (reply.Streaming stream))) = Unit {0}
MayOpenStream (Stepped (Err refusal)) = Unit {0}
MayOpenStream answer = ⊥

-- the answers that a draw may have
abbrev pub MayDraw : Answer → Type 0
MayDraw (Stepped (Ok (reply.Gave sent))) = Unit {0}
MayDraw (Stepped (Err refusal)) = Unit {0}
MayDraw answer = ⊥

-- the answers that a record may have
abbrev pub MayTake : Answer → Type 0
MayTake (Stepped (Ok reply.Took)) = Unit {0}
MayTake (Stepped (Ok reply.Known)) = Unit {0}
MayTake (Stepped (Ok reply.Finished)) = Unit {0}
MayTake (Stepped (Err refusal)) = Unit {0}
MayTake answer = ⊥

-- ---- what is counted

-- the counts with one record more
abbrev pub counts_with : SyncCounts → Told → SyncCounts
counts_with counts told.Item = record counts { items = counts.items + 1 }
counts_with counts told.MoveOut = record counts { move_outs = counts.move_outs + 1 }
counts_with counts told.Other = counts
