use Rattle.std.proofs.Common.{subst, sym}
use Rattle.mr_settle.proofs.Names.{GivenNumbers, TellAll, done_of}
use Rattle.mr_settle.proofs.ProgressLemmas.{start_up_to_date, start_long, start_zero}
use Rattle.mr_settle.proofs.WayLemmas.{begins, tell_nothing}
use Rattle.mr_settle.proofs.way.begin.Goals as goal

pub returns-clause-under_way : goal.returns-clause-under_way
returns-clause-under_way g c =
    begins g.K.Knowledge.form c.args.ends.now c.in_ok-world.world (done_of c.in_ok-progress.progress.items) c.requires c.in_ok-world.ensures
    (start_long c.args.ends.now c.in_ok-progress.progress.items c.in_ok-progress.ensures)
    (start_zero c.args.ends.now c.in_ok-progress.progress.items c.in_ok-progress.ensures)

pub returns-clause-up_to_date : goal.returns-clause-up_to_date
returns-clause-up_to_date g c = start_up_to_date c.args.ends.now c.in_ok-progress.progress.items c.in_ok-progress.ensures

pub returns-clause-tells : goal.returns-clause-tells
returns-clause-tells g c =
    let made = (c.in_ok-world.ensures).made in
    subst (λ (n : GivenNumbers). TellAll c.in_ok-world.world n) (sym c.new.ensures) (tell_nothing c.in_ok-world.world made.asks made.records made.receipts)
