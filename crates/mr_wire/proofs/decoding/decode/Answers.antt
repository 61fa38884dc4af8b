use Rattle.mr_wire.proofs.DecodeLaws.{answer_spelled, answer_within, answer_whole}
use Rattle.mr_wire.proofs.decoding.decode.Goals as goal

pub returns : goal.returns
returns c = record {
  exact = c.first_frame.ensures;
  spelled = answer_spelled c.args.bytes.now c.first_frame.result c.first_frame.ensures;
  within = answer_within c.args.bytes.now c.first_frame.result c.first_frame.ensures;
  whole = answer_whole c.args.bytes.now c.first_frame.result c.first_frame.ensures;
}
