use Rattle.std.proofs.Common.{subst, ap, List, None}
use Rattle.mr_settle.proofs.Names.{FindsLeft, Progress, done_of, given_by}
use Rattle.mr_settle.proofs.ArriveLemmas.{stuck_at, explained}
use Rattle.mr_settle.proofs.KeptLemmas.{ends_keep, ends_keep_together}
use Rattle.mr_settle.proofs.join.join_logs.Goals as goal

pub returns-in-Some-clause-why : goal.returns-in-Some-clause-why
returns-in-Some-clause-why g c =
    stuck_at g.K.Knowledge.form c.args.ends.now c.in_ok-way.way.world (given_by c.in_ok-way.way.given) (done_of c.in_ok-way.way.progress.items) (done_of c.deref.result.now) _ _ c.in_ok-way.ensures.under_way c.in_ok-way.ensures.tells c.in_ok-way.ensures.rest (ap done_of c.deref.ensures.value) c.in-Some.ensures

pub returns-in-None : goal.returns-in-None
returns-in-None g c =
    let none = subst (λ (ps : List Progress). FindsLeft c.args.ends.now (done_of ps) None) c.deref.ensures.value c.in-None.ensures in
    let explains = explained g.K.Knowledge.form g.met.K.Knowledge.by_meaning c.args.ends.now c.in_ok-way.way.world (done_of c.in_ok-way.way.progress.items) c.in_ok-way.ensures.under_way none c.compare.ensures in
    record {
      explains = explains;
      kept = ends_keep g.K.Knowledge.form c.in_ok-way.way.world c.promise.ensures c.args.ends.now explains.same c.compare.ensures;
      together = ends_keep_together g.K.Knowledge.form c.in_ok-way.way.world c.args.ends.now explains c.promise.ensures;
      why = tt;
    }
