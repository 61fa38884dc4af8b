use Rattle.std.proofs.Common.{refl}
use Rattle.mr_sync.proofs.Names.{Receive, TakesRecordOf, journal_of, replica_of, reply_by, sparing_form}
use Rattle.mr_replica.specs.Methods.{received_reply}
use Rattle.mr_sync.proofs.GrowLaws.{grows_not, answered_grows, answered_log}
use Rattle.mr_sync.proofs.records.take_record.Goals as goal

pub returns-in_err-check_record-clause-grows : goal.returns-in_err-check_record-clause-grows
returns-in_err-check_record-clause-grows g c = grows_not (TakesRecordOf c.args.source) _ _ refl

pub returns-in_err-receive-clause-grows : goal.returns-in_err-receive-clause-grows
returns-in_err-receive-clause-grows g c =
    answered_grows sparing_form (TakesRecordOf c.args.source) (journal_of c.args.kept.now) (replica_of c.args.kept.now) (Receive c.args.frame) (reply_by received_reply c.receive.result) (replica_of c.receive.new.self) c.receive.ensures.at_once.0 c.in_ok-check_record.ensures

pub returns-clause-grows : goal.returns-clause-grows
returns-clause-grows g c =
    answered_grows sparing_form (TakesRecordOf c.args.source) (journal_of c.args.kept.now) (replica_of c.args.kept.now) (Receive c.args.frame) (reply_by received_reply c.receive.result) (replica_of c.receive.new.self) c.receive.ensures.at_once.0 c.in_ok-check_record.ensures

pub returns-clause-taken : goal.returns-clause-taken
returns-clause-taken g c = answered_log sparing_form (journal_of c.args.kept.now) (replica_of c.args.kept.now) (Receive c.args.frame) _ (replica_of c.receive.new.self) c.in_ok-receive.ensures.at_once.0
