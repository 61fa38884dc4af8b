use Rattle.std.proofs.Common.{subst, List, Option, None}
use Rattle.mr_settle.proofs.Names.{FindsReady, Progress, Ready, done_of, given_by}
use Rattle.mr_settle.proofs.way.follow.Goals as goal

pub returns-clause-rest : goal.returns-clause-rest
returns-clause-rest g c =
    subst (λ (ps : List Progress). FindsReady g.K.Knowledge.form c.args.ends.now (given_by c.loop-way.way.given) (done_of ps) None) c.deref.ensures.value
    (subst (λ (o : Option Ready). FindsReady g.K.Knowledge.form c.args.ends.now (given_by c.loop-way.way.given) (done_of c.deref.result.now) o) c.in_default.is c.in_ok-ready.ensures)
