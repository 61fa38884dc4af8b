use Rattle.std.proofs.Common.{take_all, refl}
use Rattle.mr_concise.proofs.Names.{both, vector_has}
use Rattle.mr_concise.proofs.SweepLemmas.{few-of_authors}
use Rattle.mr_concise.proofs.ChangeLemmas.{HaveFew-begin, HaveFew-more, many-both}
use Rattle.mr_concise.proofs.union.has_too_many.Goals as goal

pub loop-x-init : goal.loop-x-init
loop-x-init c = HaveFew-begin c.args.a.now c.requires.a

pub loop-x-preserved : goal.loop-x-preserved
loop-x-preserved c =
    let e = c.both_columns.ensures in
    HaveFew-more c.args.a.now c.args.b.now c.loop-x.x-index c.x-item.result c.requires.b c.loop-x-test.true c.x-item.is c.loop-x.invariant (rw (e.had.0, e.had.1, e.added.0, e.added.1) at (c.has_many_holes.ensures.few c.if-has_many_holes.false))

pub returns-then-has_many_holes : goal.returns-then-has_many_holes
returns-then-has_many_holes c =
    let e = c.both_columns.ensures in
    (λ _. many-both c.args.a.now c.args.b.now c.loop-x.x-index c.x-item.result c.requires.b c.loop-x-test.true c.x-item.is (rw (e.had.0, e.had.1, e.added.0, e.added.1) at (c.has_many_holes.ensures.many c.if-has_many_holes.true)), λ _. refl)

pub returns : goal.returns
returns c = let all = take_all c.loop-x.x-index c.args.b.now c.loop-x-test.false in (λ h. absurd (cc), λ many. absurd (few-of_authors (both (vector_has c.args.a.now) (vector_has c.args.b.now)) (rw all at c.loop-x.invariant) many))
