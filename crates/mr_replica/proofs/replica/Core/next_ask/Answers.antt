use Rattle.std.proofs.Common.{◌+◌, arith}
use Rattle.mr_replica.proofs.PullLemmas.{asked_question}
use Rattle.mr_replica.proofs.replica.Core.next_ask.Goals as goal

-- a frame carries the request
pub new-requires : goal.new-requires
new-requires g c =
    asked_question (g.K.Knowledge.form.is_part c.args.self.now.knowledge) (g.K.Knowledge.form.known c.args.self.now.knowledge) (c.opened-session.result + 1) c.in_ok-asked.asked.items (omega arith) c.in_ok-asked.ensures.ok
