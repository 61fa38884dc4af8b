use Rattle.std.proofs.Common.{subst, sym, All}
use Rattle.mr_settle.proofs.Names.{All-push, AllZip, HasGoodLimit, IsSpecOf}
use Rattle.mr_settle.proofs.ListLemmas.{zip_take_more}
use Rattle.mr_settle.proofs.start.specs_of.Goals as goal

pub loop-end-preserved : goal.loop-end-preserved
loop-end-preserved g c = (
  subst (AllZip IsSpecOf _) (sym c.in_ok-push.ensures.items)
      (zip_take_more IsSpecOf c.in_ok-spec_of.field-0 c.args.ends.now c.loop-end.end-index c.end-item.result c.loop-end.specs.items c.loop-end-test.true c.end-item.is c.loop-end.invariant.0 c.in_ok-spec_of.ensures.spec),
  subst (All HasGoodLimit) (sym c.in_ok-push.ensures.items) (All-push HasGoodLimit c.loop-end.specs.items c.in_ok-spec_of.field-0 c.loop-end.invariant.1 c.in_ok-spec_of.ensures.limit),
)
