use Rattle.std.proofs.Common.{arith}
use Rattle.mr_forms.specs.Runs.{of_author}
use Rattle.mr_concise.proofs.SweepLemmas.{at_most-from_holes, at_most-next, at_most-all, holes-within}
use Rattle.mr_concise.proofs.sweep.most_holes.Goals as goal

pub loop-author-preserved : goal.loop-author-preserved
loop-author-preserved g c =
    let higher = c.max-most.ensures in
    rw c.id-id.ensures.is (record {
      most =
          at_most-next (g.S.Source.has c.args.source.now) c.loop-author.most c.max-most.result c.loop-author.id c.in-Some.author (omega arith) c.loop-author.invariant.most c.in-Some.ensures
          (at_most-from_holes (of_author (g.S.Source.has c.args.source.now) c.in-Some.author) c.hole_count.result c.max-most.result c.hole_count.ensures (omega arith));
      least = λ n within. let own = holes-within (g.S.Source.has c.args.source.now) c.in-Some.author c.hole_count.result n c.hole_count.ensures within in let others = c.loop-author.invariant.least n within in omega arith;
    })

pub returns-clause-most : goal.returns-clause-most
returns-clause-most g c = at_most-all (g.S.Source.has c.args.source.now) c.loop-author.most c.loop-author.id c.loop-author.invariant.most c.in_default.ensures
