use Rattle.std.proofs.Common.{arith}
use Rattle.mr_sync.proofs.MarkLaws.{cut_marked}
use Rattle.mr_sync.proofs.marks.split.Goals as goal

pub returns : goal.returns
returns c =
    let four = c.in_ok-counter.ensures.cases in
    let short = c.in_ok-short.ensures.cases in
    cut_marked c.args.bytes.now c.in_ok-counter.counter.now c.in_ok-counter.rest.now c.in_ok-short.short.now c.in_ok-short.frame.now c.from_be_bytes.result
    (λ i. omega (arith, c.type_inv.bytes i)) four.0 four.1 (omega (arith, four.2)) short.0 short.1 (omega (arith, short.2)) c.from_be_bytes.ensures c.from_be_bytes.type_inv
