use Rattle.mr_sync.proofs.Names.{AreIdle, IsAnswer, Some}
use Rattle.mr_sync.proofs.IdleLaws.{answered_so, none_more, said_at}
use Rattle.mr_sync.proofs.idle.idle_answer.Goals as goal

pub returns-then-said : goal.returns-then-said
returns-then-said c =
    let mine = c.talk-item.result.mine in
    let answer : IsAnswer c.args.talks.now c.args.theirs.now (Some mine) =
    (c.loop-talk.talk-index, c.loop-talk-test.true, c.loop-talk.invariant, said_at c.args.talks.now c.args.theirs.now c.loop-talk.talk-index c.talk-item.result c.loop-talk-test.true c.talk-item.is c.if-said.ensures) in
    record { answer = answer; idle = λ birth s meetings. answered_so (AreIdle birth s meetings) c.args.talks.now c.args.theirs.now mine answer }

pub loop-talk-preserved : goal.loop-talk-preserved
loop-talk-preserved c = none_more c.args.talks.now c.args.theirs.now c.loop-talk.talk-index c.talk-item.result c.loop-talk-test.true c.talk-item.is c.loop-talk.invariant c.if-said.ensures
