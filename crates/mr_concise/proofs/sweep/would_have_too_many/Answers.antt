use Rattle.std.proofs.Common.{arith}
use Rattle.mr_concise.proofs.SweepLemmas.{at_most-next, at_most-all, few-of_authors}
use Rattle.mr_concise.proofs.sweep.would_have_too_many.Goals as goal

pub loop-author-preserved : goal.loop-author-preserved
loop-author-preserved g c = rw c.id-id.ensures.is (at_most-next (g.S.Source.has c.args.source.now) 4096 4096 c.loop-author.id c.in-Some.author (omega arith) c.loop-author.invariant c.in-Some.ensures (c.has_many_holes.ensures.few c.if-has_many_holes.false))

pub returns : goal.returns
returns g c = (λ h. absurd (cc), λ many. absurd (few-of_authors (g.S.Source.has c.args.source.now) (at_most-all (g.S.Source.has c.args.source.now) 4096 c.loop-author.id c.loop-author.invariant c.in_default.ensures) many))
