use Rattle.std.proofs.Common.{subst, sym}
use Rattle.mr_settle.proofs.Names.{AllZip, IsProgressAt}
use Rattle.mr_settle.proofs.ListLemmas.{zip_take_more}
use Rattle.mr_settle.proofs.way.no_progress.Goals as goal

pub loop-end-preserved : goal.loop-end-preserved
loop-end-preserved g c =
    subst (AllZip (λ end p. IsProgressAt end 0 p) _) (sym c.in_ok-push.ensures.items)
    (zip_take_more (λ end p. IsProgressAt end 0 p) c.in_ok-try_new.field-0 c.args.ends.now c.loop-end.end-index c.end-item.result c.loop-end.progress.items c.loop-end-test.true c.end-item.is c.loop-end.invariant c.in_ok-try_new.ensures)
