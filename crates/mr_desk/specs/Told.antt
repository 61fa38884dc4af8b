-- what a reply tells, and the frame that it gives
use Rattle.std.specs.Prelude.{ℕ, List, []}
use Rattle.mr_wire.specs.FrameSpelling.{frame_bytes}
use Rattle.mr_wire.specs.declared.frame.Frame.TheVariants as frame
use Rattle.mr_replica.specs.declared.event.Reply.{Reply}
use Rattle.mr_replica.specs.declared.event.Reply.TheVariants as reply
use Rattle.mr_desk.specs.declared.reply.Told.{Told}
use Rattle.mr_desk.specs.declared.reply.Told.TheVariants as told

abbrev pub told_by : Reply → Told
told_by (reply.Issued version) = told.Issued version
told_by reply.Done = told.Done
told_by (reply.Asked ask) = told.Asked ask.session
told_by (reply.Streaming stream) = told.Streaming stream
told_by (reply.Gave sent) = told.Done
told_by reply.Took = told.Took
told_by reply.Known = told.Known
told_by reply.Finished = told.Finished
told_by (reply.Vouched receipt) = told.Done

-- the bytes of the frame, in the format that is written, and none where there is no frame
abbrev pub frame_by : Reply → List ℕ
frame_by (reply.Asked ask) = frame_bytes 2 (frame.Ask ask)
frame_by (reply.Gave sent) = frame_bytes 2 (frame.Record sent)
frame_by (reply.Vouched receipt) = frame_bytes 2 (frame.Receipt receipt)
frame_by other = []
