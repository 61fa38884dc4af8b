use Rattle.std.proofs.Common.{refl}
use Rattle.mr_sync.proofs.Names.{IsAnswerFault, Kept, OutOfMemory, journal_of, replica_of}
use Rattle.mr_sync.proofs.TakeLaws.{no_request, passed_on, refused_ask}
use Rattle.mr_sync.proofs.asking.answer_ask.Goals as goal

pub returns-in_err-ask-clause-fault : goal.returns-in_err-ask-clause-fault
returns-in_err-ask-clause-fault g c =
    let s = replica_of c.args.kept.now in
    let journal = journal_of c.args.kept.now in
    let fault = c.in_err-ask.field-0.0 in
    passed_on (IsAnswerFault journal s c.args.target c.args.bytes.now s) fault c.from_residual.result c.from_residual.ensures.1 (no_request journal s c.args.target c.args.bytes.now fault c.in_err-ask.ensures.fault)

pub returns-in_err-asked-clause-fault : goal.returns-in_err-asked-clause-fault
returns-in_err-asked-clause-fault g c =
    let s = replica_of c.args.kept.now in
    passed_on (IsAnswerFault (journal_of c.args.kept.now) s c.args.target c.args.bytes.now s) OutOfMemory c.from_residual-in_err-asked.result c.from_residual-in_err-asked.ensures.1 (tt, refl)

pub returns-in_err-stream-clause-fault : goal.returns-in_err-stream-clause-fault
returns-in_err-stream-clause-fault g c =
    let s = replica_of c.args.kept.now in
    let new = replica_of c.answer.new.self in
    let journal = journal_of c.args.kept.now in
    let fault = c.in_err-stream.field-0.0 in
    passed_on (IsAnswerFault journal s c.args.target c.args.bytes.now new) (Kept fault) c.from_residual-in_err-stream.result c.from_residual-in_err-stream.ensures.1
    (refused_ask journal s new c.args.target c.args.bytes.now c.in_ok-ask.ask fault c.in_ok-ask.ensures.exact c.in_ok-ask.ensures.target c.in_err-stream.ensures.at_once.0)

pub returns-clause-answers : goal.returns-clause-answers
returns-clause-answers g c =
    let spelled = c.in_ok-ask.ensures.spelled in
    record { question = c.in_ok-ask.ask; format = spelled.0; stream = c.in_ok-stream.stream; spelled = spelled.1; target_is = c.in_ok-ask.ensures.target; opened = c.in_ok-stream.ensures.at_once.0.1 }
