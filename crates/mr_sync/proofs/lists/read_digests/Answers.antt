use Rattle.std.proofs.Common.{arith}
use Rattle.mr_sync.proofs.ListLaws.{reads_digest, reads_list}
use Rattle.mr_sync.proofs.lists.read_digests.Goals as goal

pub returns : goal.returns
returns c = reads_list reads_digest 32 (omega arith) (λ d h. h) c.args.bytes.now c.new-input.result c.len.result c.digest_run-found.result c.digest_run-found.new.input c.whole_list.result c.new-input.ensures c.digest_run-found.ensures c.len.ensures c.whole_list.ensures
