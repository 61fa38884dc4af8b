use Rattle.std.proofs.Common.{◌≡◌, ◌++◌, take}
use Rattle.mr_sync.specs.inner.Said.{bytes_of, receipt_frames, record_frames}
use Rattle.mr_sync.proofs.said.say_all.Given as goal

abbrev pub invariant-loop-reply : goal.invariant-loop-reply
invariant-loop-reply l = record {
  records : bytes_of l.said.records.items ≡ bytes_of l.fn.said.records.items ++ record_frames (take l.reply-index l.replies);
  receipts : bytes_of l.said.receipts.items ≡ bytes_of l.fn.said.receipts.items ++ receipt_frames (take l.reply-index l.replies);
}
