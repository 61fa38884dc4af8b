use Rattle.std.proofs.Common.{arith}
use Rattle.mr_folder.proofs.Moments.{untouched_still}
use Rattle.mr_folder.proofs.ShowLemmas.{untouched_on}
use Rattle.mr_sync.proofs.ListedLaws.{lists_more}
use Rattle.mr_sync.proofs.records.note_lacking.Goals as goal

pub loop-frame-init : goal.loop-frame-init
loop-frame-init g c = record {
  named = λ told k d low lt. absurd (omega arith);
  stay = λ digest on. on;
  untouched = λ told. untouched_still _ (g.met.F.FileTree.only_now _);
}

pub loop-frame-preserved : goal.loop-frame-preserved
loop-frame-preserved g c = record {
  named = λ told.
      lists_more c.args.frames.now c.loop-frame.frame-index c.frame-item.result _ _ _ _ (c.note_file.ensures.untouched told).same c.in_ok-note_file.ensures.stay (c.loop-frame.invariant.named told) c.loop-frame-test.true c.frame-item.is
      (c.in_ok-note_file.ensures.named told);
  stay = λ digest on. c.in_ok-note_file.ensures.stay digest (c.loop-frame.invariant.stay digest on);
  untouched = λ told. untouched_on (c.loop-frame.invariant.untouched told) (c.note_file.ensures.untouched told);
}

pub returns-in_err-note_file-clause-untouched : goal.returns-in_err-note_file-clause-untouched
returns-in_err-note_file-clause-untouched g c = λ told. untouched_on (c.loop-frame.invariant.untouched told) (c.note_file.ensures.untouched told)
