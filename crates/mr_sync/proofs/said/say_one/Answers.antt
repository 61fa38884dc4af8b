use Rattle.std.proofs.Common.{refl}
use Rattle.mr_sync.proofs.Names.{Gave, Vouched, receipt_frame, record_frame}
use Rattle.mr_sync.proofs.SayLaws.{on_ok, said_one}
use Rattle.mr_sync.proofs.said.say_one.Goals as goal

pub returns-in_ok-encode_record-in-Gave-clause-records : goal.returns-in_ok-encode_record-in-Gave-clause-records
returns-in_ok-encode_record-in-Gave-clause-records c =
    on_ok c.push_frame.result c.push_frame.ensures (λ put. said_one record_frame c.args.reply.now (Gave c.in-Gave.record) _ _ _ _ put c.in_ok-encode_record-in-Gave.ensures.exact.0 c.in-Gave.is refl)

pub returns-in_ok-encode_receipt-in-Vouched-clause-receipts : goal.returns-in_ok-encode_receipt-in-Vouched-clause-receipts
returns-in_ok-encode_receipt-in-Vouched-clause-receipts c =
    on_ok c.push_frame-in-Vouched.result c.push_frame-in-Vouched.ensures (λ put. said_one receipt_frame c.args.reply.now (Vouched c.in-Vouched.receipt) _ _ _ _ put c.in_ok-encode_receipt-in-Vouched.ensures.exact.0 c.in-Vouched.is refl)
