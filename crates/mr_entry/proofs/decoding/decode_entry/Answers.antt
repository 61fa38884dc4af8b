use Rattle.mr_entry.specs.Decoding.{Answers}
use Rattle.mr_entry.proofs.CodecLaws.{answered}
use Rattle.mr_entry.proofs.EntryLaws.{entry_codec}
use Rattle.mr_entry.proofs.decoding.decode_entry.Goals as goal

pub returns : goal.returns
returns c =
    let exact = c.first_entry.ensures in
    let is = answered entry_codec Answers (λ read x same. same) c.args.bytes.now c.first_entry.result exact in
    record { exact = exact; spelled = is.spelled; within = is.within; whole = is.whole }
