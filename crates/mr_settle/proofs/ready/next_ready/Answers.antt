use Rattle.std.proofs.Common.{subst, length, Option}
use Rattle.mr_settle.proofs.Names.{IsFirstReady, Ready, done_of, given_by}
use Rattle.mr_settle.proofs.ArriveLemmas.{next_found}
use Rattle.mr_settle.proofs.ready.next_ready.Goals as goal

pub returns-in-None : goal.returns-in-None
returns-in-None g c =
    next_found g.K.Knowledge.form c.args.ends.now (given_by c.args.given.now) (done_of c.args.progress.now) c.args.from
    (subst (λ (o : Option Ready). IsFirstReady g.K.Knowledge.form c.args.ends.now (given_by c.args.given.now) (done_of c.args.progress.now) c.args.from (length c.args.ends.now) o) c.in-None.is c.in_ok-ready.ensures)
    c.first_ready-in-None.result c.first_ready-in-None.ensures
