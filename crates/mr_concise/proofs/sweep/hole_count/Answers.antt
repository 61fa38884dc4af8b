use Rattle.mr_forms.specs.Runs.{of_author}
use Rattle.mr_concise.proofs.SweepLemmas.{SweptCount-more, SweptCount-end}
use Rattle.mr_concise.proofs.sweep.hole_count.Goals as goal

pub loop-start-preserved : goal.loop-start-preserved
loop-start-preserved g c = SweptCount-more (of_author (g.S.Source.has c.args.source.now) c.args.author) c.loop-start.count c.loop-start.at c.in-Some.start c.next_out-at-in-Some.result c.loop-start.invariant c.in-Some.ensures.next c.next_out-at-in-Some.ensures.next c.next_out-at-in-Some.ensures.bound

pub returns : goal.returns
returns g c = SweptCount-end (of_author (g.S.Source.has c.args.source.now) c.args.author) c.loop-start.count c.loop-start.at c.next_out-at.ensures.zero c.loop-start.invariant c.in_default.ensures.next
