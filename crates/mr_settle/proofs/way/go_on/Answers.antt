use Rattle.std.proofs.Common.{rules, subst, sym, refl, ◌<◌, ℕ, List, length, arith}
use Rattle.mr_settle.proofs.Names.{IsUnderWay, IsUpToDate, done_of, given_by, left_over, slice_get_read}
use Rattle.mr_settle.proofs.ProgressLemmas.{done_set, zip_set}
use Rattle.mr_settle.proofs.WayLemmas.{may_happen, ready_among, ready_in_progress, ready_goes_on, ready_tells, ready_nearer}
use Rattle.mr_settle.proofs.way.go_on.Goals as goal

pub happen-requires : goal.happen-requires
happen-requires g c = may_happen g.K.Knowledge.form c.args.ends.now c.args.way.world (given_by c.args.way.given) (done_of c.args.way.progress.items) c.args.ready c.requires.under_way c.requires.tells c.requires.ready

pub offset_bounds-ends-ready : goal.offset_bounds-ends-ready
offset_bounds-ends-ready g c = let among = ready_among g.K.Knowledge.form c.args.ends.now (given_by c.args.way.given) (done_of c.args.way.progress.items) c.args.ready c.requires.ready in omega (arith, among)

pub bounds-ends-ready : goal.bounds-ends-ready
bounds-ends-ready g c = ready_among g.K.Knowledge.form c.args.ends.now (given_by c.args.way.given) (done_of c.args.way.progress.items) c.args.ready c.requires.ready

pub index_mut-requires : goal.index_mut-requires
index_mut-requires g c = let within = ready_in_progress g.K.Knowledge.form c.args.ends.now (given_by c.args.way.given) c.args.way.progress.items c.args.ready c.requires.ready in search rules

pub returns-clause-under_way : goal.returns-clause-under_way
returns-clause-under_way g c =
    subst (λ (ds : List ℕ). IsUnderWay g.K.Knowledge.form c.args.ends.now c.happen.new.world ds) (sym (done_set c.args.way.progress.items c.args.ready.place c.args.ready.after c.in_ok-next.next c.in_ok-next.ensures.0))
    (ready_goes_on g.K.Knowledge.form g.met.K.Knowledge.by_meaning c.args.ends.now c.args.way.world c.happen.new.world (given_by c.args.way.given) (done_of c.args.way.progress.items) c.args.ready c.requires.distinct c.requires.under_way c.requires.tells c.requires.ready c.in_ok-happen.ensures)

pub returns-clause-up_to_date : goal.returns-clause-up_to_date
returns-clause-up_to_date g c =
    let among = ready_among g.K.Knowledge.form c.args.ends.now (given_by c.args.way.given) (done_of c.args.way.progress.items) c.args.ready c.requires.ready in
    zip_set IsUpToDate c.args.ends.now c.args.way.progress.items c.args.ready.place c.index-ends-ready.result c.in_ok-next.next c.requires.up_to_date
    (slice_get_read c.args.ends.now (length c.args.ends.now) c.args.ready.place c.index-ends-ready.result refl among c.index-ends-ready.is) c.in_ok-next.ensures.1

pub returns-clause-tells : goal.returns-clause-tells
returns-clause-tells g c =
    ready_tells g.K.Knowledge.form g.met.K.Knowledge.by_meaning c.args.ends.now c.args.way.world c.happen.new.world (given_by c.args.way.given) (given_by c.note_newest.new.self) (done_of c.args.way.progress.items) c.args.ready c.requires.under_way c.requires.tells c.requires.ready c.in_ok-happen.ensures c.in_ok-note_newest.ensures

pub returns-clause-nearer : goal.returns-clause-nearer
returns-clause-nearer g c =
    subst (λ (ds : List ℕ). left_over c.args.ends.now ds < left_over c.args.ends.now (done_of c.args.way.progress.items)) (sym (done_set c.args.way.progress.items c.args.ready.place c.args.ready.after c.in_ok-next.next c.in_ok-next.ensures.0))
    (ready_nearer g.K.Knowledge.form c.args.ends.now (given_by c.args.way.given) (done_of c.args.way.progress.items) c.args.ready c.requires.ready)
