use Rattle.std.proofs.Common.{ap}
use Rattle.mr_sync.proofs.Names.{LetsGoFor, Normal, State, replica_of}
use Rattle.std.proofs.Common.{refl}
use Rattle.mr_sync.proofs.GrowLaws.{grows_not, grows_so, grows_unmet}
use Rattle.mr_sync.proofs.ReleaseLaws.{takes_receipts}
use Rattle.mr_sync.proofs.receipts.take_receipts_message.Goals as goal

pub returns-in_err-giver-clause-grows : goal.returns-in_err-giver-clause-grows
returns-in_err-giver-clause-grows g c = grows_unmet LetsGoFor c.args.talk.now.theirs (replica_of c.args.kept.now).log c.in_err-giver.ensures.1

pub returns-in_err-frames-clause-grows : goal.returns-in_err-frames-clause-grows
returns-in_err-frames-clause-grows g c = grows_so LetsGoFor c.args.talk.now.theirs c.in_ok-giver.giver _ _ _ c.in_ok-giver.ensures (grows_not (LetsGoFor c.in_ok-giver.giver) _ _ refl) refl

pub returns-in_err-released-clause-grows : goal.returns-in_err-released-clause-grows
returns-in_err-released-clause-grows g c = grows_so LetsGoFor c.args.talk.now.theirs c.in_ok-giver.giver _ _ _ c.in_ok-giver.ensures c.take_receipts.ensures.grows refl

pub returns-in_err-keep_and_say-clause-grows : goal.returns-in_err-keep_and_say-clause-grows
returns-in_err-keep_and_say-clause-grows g c =
    grows_so LetsGoFor c.args.talk.now.theirs c.in_ok-giver.giver _ _ _ c.in_ok-giver.ensures c.take_receipts.ensures.grows (ap (λ (s : State Normal). s.log) c.keep_and_say.ensures.replica)

pub returns-clause-taken : goal.returns-clause-taken
returns-clause-taken g c =
    takes_receipts c.args.talk.now.theirs c.in_ok-giver.giver c.args.bytes.now c.in_ok-frames.frames.items (replica_of c.args.kept.now) _ (replica_of c.keep_and_say.new.kept)
    c.in_ok-giver.ensures c.in_ok-frames.ensures c.in_ok-released.ensures.all c.keep_and_say.ensures.replica

pub returns-clause-grows : goal.returns-clause-grows
returns-clause-grows g c =
    grows_so LetsGoFor c.args.talk.now.theirs c.in_ok-giver.giver _ _ _ c.in_ok-giver.ensures c.take_receipts.ensures.grows (ap (λ (s : State Normal). s.log) c.keep_and_say.ensures.replica)
