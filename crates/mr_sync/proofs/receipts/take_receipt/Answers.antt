use Rattle.std.proofs.Common.{refl}
use Rattle.mr_sync.proofs.Names.{Done, LetsGoFor, Release, journal_of, replica_of, reply_by, sparing_form}
use Rattle.mr_sync.proofs.GrowLaws.{grows_not, answered_grows}
use Rattle.mr_sync.proofs.ReleaseLaws.{released_one}
use Rattle.mr_sync.proofs.receipts.take_receipt.Goals as goal

pub returns-in_err-receipt-clause-grows : goal.returns-in_err-receipt-clause-grows
returns-in_err-receipt-clause-grows g c = grows_not (LetsGoFor c.args.giver) _ _ refl

pub returns-clause-grows : goal.returns-clause-grows
returns-clause-grows g c =
    answered_grows sparing_form (LetsGoFor c.args.giver) (journal_of c.args.kept.now) (replica_of c.args.kept.now) (Release c.in_ok-receipt.receipt) (reply_by (λ _. Done) c.release.result) (replica_of c.release.new.self) c.release.ensures.at_once.0 c.in_ok-receipt.ensures.1

pub returns-clause-released : goal.returns-clause-released
returns-clause-released g c =
    released_one (journal_of c.args.kept.now) (replica_of c.args.kept.now) (replica_of c.release.new.self) c.args.giver c.args.frame c.in_ok-receipt.receipt c.release.result c.was_there.result
    c.was_there.ensures c.in_ok-receipt.ensures.0 c.in_ok-receipt.ensures.1 c.release.ensures.at_once.0
