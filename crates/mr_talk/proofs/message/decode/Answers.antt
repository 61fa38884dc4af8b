use Rattle.mr_talk.proofs.MessageLaws.{answer_spelled, answer_within, answer_whole}
use Rattle.std.proofs.Common.{arith}
use Rattle.mr_talk.proofs.message.decode.Goals as goal

pub returns : goal.returns
returns c = record {
  exact = c.first.ensures.exact;
  begins = answer_spelled c.args.bytes.now c.first.result (λ i. omega (arith, c.type_inv.bytes i)) c.first.ensures.exact;
  within = answer_within c.args.bytes.now c.first.result (λ i. omega (arith, c.type_inv.bytes i)) c.first.ensures.exact;
  whole = answer_whole c.args.bytes.now c.first.result c.first.ensures.exact;
}
