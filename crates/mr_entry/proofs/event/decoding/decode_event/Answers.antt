use Rattle.std.proofs.Common.{ℕ, List, subst}
use Rattle.mr_entry.specs.Decoding.{AnswersEvent, event_decoded}
use Rattle.mr_entry.proofs.CodecLaws.{answered}
use Rattle.mr_entry.proofs.EventLaws.{event_codec}
use Rattle.mr_entry.proofs.event.decoding.decode_event.Goals as goal

pub returns : goal.returns
returns c =
    let exact = subst (λ (l : List ℕ). AnswersEvent (event_decoded l) c.event_in.result) c.new.ensures c.event_in.ensures.exact in
    let is = answered event_codec AnswersEvent (λ read x same. same) c.args.bytes.now c.event_in.result exact in
    record { exact = exact; spelled = is.spelled; within = is.within; whole = is.whole }
