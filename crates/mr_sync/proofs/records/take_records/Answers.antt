use Rattle.std.proofs.Common.{List, ◌++◌, map, refl, ap, ◌∙◌}
use Rattle.mr_sync.proofs.Names.{Frame, Receive, TakesRecordOf, replica_of}
use Rattle.mr_sync.proofs.GrowLaws.{grows_not, grows_on, taken_more}
use Rattle.mr_sync.proofs.records.take_records.Goals as goal

pub loop-frame-init : goal.loop-frame-init
loop-frame-init g c = record {
  grows = grows_not (TakesRecordOf c.args.source) _ _ refl;
  all = ap (λ (fs : List Frame). (replica_of c.args.kept.now).log ++ map Receive fs) c.into_iter-frame-iterator.ensures.into_iter_gives.0;
  last = refl;
  lacking = refl;
}

pub loop-frame-preserved : goal.loop-frame-preserved
loop-frame-preserved g c = record {
  grows = grows_on (TakesRecordOf c.args.source) _ _ _ c.loop-frame.invariant.grows c.take_record.ensures.grows;
  all = taken_more _ _ _ _ _ c.in-Some.frame c.loop-frame.invariant.all c.in-Some.ensures.steps.0 c.in_ok-received.ensures.taken;
  last = c.note.ensures.last ∙ c.loop-frame.invariant.last;
  lacking = c.note.ensures.lacking ∙ c.loop-frame.invariant.lacking;
}

pub returns-in_err-received-clause-grows : goal.returns-in_err-received-clause-grows
returns-in_err-received-clause-grows g c = grows_on (TakesRecordOf c.args.source) _ _ _ c.loop-frame.invariant.grows c.take_record.ensures.grows
