use Rattle.std.proofs.Common.{arith}
use Rattle.mr_sync.proofs.ListLaws.{push_out_size, reads_list, reads_push_out}
use Rattle.mr_sync.proofs.lists.read_push_outs.Goals as goal

pub returns : goal.returns
returns c = reads_list reads_push_out 12 (omega arith) push_out_size c.args.bytes.now c.new-input.result c.len.result c.push_out_run-found.result c.push_out_run-found.new.input c.whole_list.result c.new-input.ensures c.push_out_run-found.ensures c.len.ensures c.whole_list.ensures
