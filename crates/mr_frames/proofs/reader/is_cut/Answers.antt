use Rattle.std.proofs.Common.{arith}
use Rattle.mr_frames.proofs.PartLaws.{cut_is_truncated}
use Rattle.mr_frames.proofs.reader.is_cut.Goals as goal

pub returns-clause-exact : goal.returns-clause-exact
returns-clause-exact c =
    cut_is_truncated c.args.rest.now c.read_u32-len.result (omega arith) (λ i. omega (arith, c.type_inv.rest i)) c.read_u32-len.ensures (omega arith) (omega arith)
