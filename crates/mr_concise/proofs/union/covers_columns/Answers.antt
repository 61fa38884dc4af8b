use Rattle.std.proofs.Common.{take_all, refl}
use Rattle.mr_concise.proofs.CoverLemmas.{covers-begin, covers-more, covers-column}
use Rattle.mr_concise.proofs.union.covers_columns.Goals as goal

pub loop-x-init : goal.loop-x-init
loop-x-init c = covers-begin c.args.a.now

pub loop-x-preserved : goal.loop-x-preserved
loop-x-preserved c = covers-more c.args.a.now c.args.b.now c.loop-x.x-index c.x-item.result c.requires.b c.loop-x-test.true c.x-item.is c.loop-x.invariant (rw (c.column_at.ensures, c.lent.ensures) at (c.covers.ensures.0 c.if-not-covers.false))

pub returns-then-not-covers : goal.returns-then-not-covers
returns-then-not-covers c = (λ h. absurd (cc), λ covers. let held = c.covers.ensures.1 (rw (c.column_at.ensures, c.lent.ensures) (covers-column c.args.a.now c.args.b.now c.loop-x.x-index c.x-item.result c.requires.b c.loop-x-test.true c.x-item.is covers)) in absurd (cc))

pub returns : goal.returns
returns c = let all = take_all c.loop-x.x-index c.args.b.now c.loop-x-test.false in (λ _. rw all at c.loop-x.invariant, λ _. refl)
