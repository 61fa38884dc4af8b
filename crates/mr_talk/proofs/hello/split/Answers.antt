use Rattle.std.proofs.Common.{arith}
use Rattle.std.proofs.lemmas.List.{take_rest}
use Rattle.mr_talk.proofs.HelloLaws.{split_fields}
use Rattle.mr_talk.proofs.hello.split.Goals as goal

pub returns : goal.returns
returns c =
    split_fields c.args.bytes.now _ c.in_ok-birth.birth.now c.in_ok-birth.rest.now c.in_ok-knows.knows.now c.in_ok-knows.rest.now c.in_ok-tip.tip.now c.in_ok-tip.rest.now c.in_ok-issued.issued.now c.in_ok-issued.rest.now c.in_ok-known.known.now c.in_ok-known.rest.now
    c.from_be_bytes.result c.from_be_bytes-2.result (λ i. omega (arith, c.type_inv.bytes i))
    (omega arith) (take_rest c.args.bytes.now 2) c.in_ok-birth.ensures.cases.0 c.in_ok-birth.ensures.cases.1 c.in_ok-knows.ensures.cases.0 c.in_ok-knows.ensures.cases.1 c.in_ok-tip.ensures.cases.0 c.in_ok-tip.ensures.cases.1
    c.in_ok-issued.ensures.cases.0 c.in_ok-issued.ensures.cases.1 c.in_ok-known.ensures.cases.0 c.in_ok-known.ensures.cases.1
    c.from_be_bytes.ensures c.from_be_bytes-2.ensures c.from_be_bytes.type_inv c.from_be_bytes-2.type_inv
