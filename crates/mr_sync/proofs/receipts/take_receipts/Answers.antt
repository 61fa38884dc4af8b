use Rattle.std.proofs.Common.{◌≡◌, List, [], arith, refl, subst}
use Rattle.mr_sync.proofs.Names.{Frame, LetsGoFor, ReleasesAll, common_steps, into_iter_items, replica_of}
use Rattle.mr_sync.proofs.GrowLaws.{grows_not, grows_on}
use Rattle.mr_sync.proofs.ReleaseLaws.{released_more, released_none}
use Rattle.mr_sync.proofs.receipts.take_receipts.Goals as goal

pub loop-frame-init : goal.loop-frame-init
loop-frame-init g c = record {
  grows = grows_not (LetsGoFor c.args.giver) _ _ refl;
  all = λ new rest. subst (λ (fs : List Frame). ReleasesAll c.args.giver (replica_of c.args.kept.now) fs new) c.into_iter-frame-iterator.ensures.into_iter_gives.0 rest;
}

pub loop-frame-preserved : goal.loop-frame-preserved
loop-frame-preserved g c = record {
  grows = grows_on (LetsGoFor c.args.giver) _ _ _ c.loop-frame.invariant.grows c.take_receipt.ensures.grows;
  all = λ new rest. c.loop-frame.invariant.all new (released_more c.args.giver _ _ new _ _ c.in-Some.frame c.in-Some.ensures.steps.0 c.in_ok-was_for_some.ensures.released rest);
}

pub returns-in_err-was_for_some-clause-grows : goal.returns-in_err-was_for_some-clause-grows
returns-in_err-was_for_some-clause-grows g c = grows_on (LetsGoFor c.args.giver) _ _ _ c.loop-frame.invariant.grows c.take_receipt.ensures.grows

pub returns-clause-all : goal.returns-clause-all
returns-clause-all g c =
    let none : into_iter_items c.loop-frame.frame-iterator ≡ [] = grind (arith, common_steps) in
    c.loop-frame.invariant.all (replica_of c.loop-frame.kept) (released_none c.args.giver (replica_of c.loop-frame.kept) (into_iter_items c.loop-frame.frame-iterator) none)
