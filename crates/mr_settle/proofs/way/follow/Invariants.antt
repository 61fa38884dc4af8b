use Rattle.mr_settle.proofs.Names.{AllZip, IsUnderWay, IsUpToDate, TellAll, done_of, given_by, left_over}
use Rattle.mr_settle.proofs.way.follow.Given as goal

abbrev pub invariant-loop-way : goal.invariant-loop-way
invariant-loop-way g l = record {
  under_way : IsUnderWay g.K.Knowledge.form l.ends l.way.world (done_of l.way.progress.items);
  up_to_date : AllZip IsUpToDate l.ends l.way.progress.items;
  tells : TellAll l.way.world (given_by l.way.given);
}

abbrev pub decreases-loop-way : goal.decreases-loop-way
decreases-loop-way g l = left_over l.ends (done_of l.way.progress.items)
