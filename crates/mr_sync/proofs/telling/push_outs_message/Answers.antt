use Rattle.std.proofs.Common.{◌∙◌, arith}
use Rattle.mr_sync.proofs.ListLaws.{revisions_short}
use Rattle.mr_sync.proofs.telling.push_outs_message.Goals as goal

pub message_of-requires : goal.message_of-requires
message_of-requires c = revisions_short c.in_ok-bytes.bytes.items _ _ c.in_ok-bytes.ensures (omega arith)

pub returns-clause-told : goal.returns-clause-told
returns-clause-told c = (omega arith, omega arith, c.message_of.ensures.bytes ∙ c.in_ok-bytes.ensures)
