use Rattle.std.proofs.Common.{sym, append-nil}
use Rattle.mr_sync.specs.inner.Said.{bytes_of, receipt_frame, record_frame}
use Rattle.mr_sync.proofs.SayLaws.{one_more}
use Rattle.mr_sync.proofs.said.say_all.Goals as goal

pub loop-reply-init : goal.loop-reply-init
loop-reply-init c = record {
  records = sym (append-nil (bytes_of c.args.said.now.records.items));
  receipts = sym (append-nil (bytes_of c.args.said.now.receipts.items));
}

pub loop-reply-preserved : goal.loop-reply-preserved
loop-reply-preserved c = record {
  records = one_more record_frame c.args.replies.now c.loop-reply.reply-index c.reply-item.result _ _ _ c.loop-reply.invariant.records c.loop-reply-test.true c.reply-item.is c.in_ok-say_one.ensures.records;
  receipts = one_more receipt_frame c.args.replies.now c.loop-reply.reply-index c.reply-item.result _ _ _ c.loop-reply.invariant.receipts c.loop-reply-test.true c.reply-item.is c.in_ok-say_one.ensures.receipts;
}
