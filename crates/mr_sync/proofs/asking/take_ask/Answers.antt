use Rattle.mr_kept.specs.Kept.{journal_of, replica_of}
use Rattle.mr_sync.proofs.TakeLaws.{faults_behind, lent_marked, met_faults}
use Rattle.mr_sync.proofs.asking.take_ask.Goals as goal

pub returns-clause-fault : goal.returns-clause-fault
returns-clause-fault g c =
    let s = replica_of c.args.kept.now in
    let new = replica_of c.answer_ask.new.kept in
    let journal = journal_of c.args.kept.now in
    let target = c.in_ok-target.target in
    let rest = c.in_ok-frame.frame.now in
    let marked = lent_marked c.replica.result.now s c.args.bytes.now rest c.replica.ensures.is c.in_ok-frame.ensures in
    met_faults journal c.args.talk.now.theirs target s new c.args.bytes.now c.answer_ask.result c.in_ok-target.ensures
    (faults_behind journal s new target c.args.bytes.now rest c.answer_ask.result marked c.answer_ask.ensures.fault)
