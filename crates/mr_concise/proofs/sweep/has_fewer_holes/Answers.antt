use Rattle.mr_forms.specs.Runs.{of_author}
use Rattle.mr_concise.proofs.SweepLemmas.{SweptCount-more, fewer-from_end, at_least-from_found}
use Rattle.mr_concise.proofs.sweep.has_fewer_holes.Goals as goal

pub returns-in_default-clause-fewer : goal.returns-in_default-clause-fewer
returns-in_default-clause-fewer g c _ = fewer-from_end (of_author (g.S.Source.has c.args.source.now) c.args.author) c.loop-count.count c.loop-count.at c.args.limit c.next_out-at.ensures.zero c.loop-count.invariant c.in_default.ensures.next c.loop-count-test.true

pub loop-count-preserved : goal.loop-count-preserved
loop-count-preserved g c = SweptCount-more (of_author (g.S.Source.has c.args.source.now) c.args.author) c.loop-count.count c.loop-count.at c.in-Some.start c.next_out-at-in-loop-count.result c.loop-count.invariant c.in-Some.ensures.next c.next_out-at-in-loop-count.ensures.next c.next_out-at-in-loop-count.ensures.bound

pub returns-clause-no : goal.returns-clause-no
returns-clause-no g c _ = at_least-from_found (of_author (g.S.Source.has c.args.source.now) c.args.author) c.loop-count.count c.loop-count.at c.args.limit c.loop-count.invariant c.loop-count-test.false
