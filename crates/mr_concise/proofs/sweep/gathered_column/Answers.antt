use Rattle.mr_forms.specs.Runs.{of_author}
use Rattle.std.proofs.Common.{◌-◌}
use Rattle.mr_concise.proofs.SweepLemmas.{swept-more, swept-end, IsColumn-from_few}
use Rattle.mr_concise.proofs.sweep.gathered_column.Goals as goal

pub loop-start-preserved : goal.loop-start-preserved
loop-start-preserved g c = rw c.in_ok-push.ensures.items (swept-more (of_author (g.S.Source.has c.args.source.now) c.args.author) c.loop-start.holes.items c.loop-start.at c.in-Some.start c.next_out-at-in-Some.result c.loop-start.invariant c.in-Some.ensures.next c.next_out-at-in-Some.ensures.next c.next_out-at-in-Some.ensures.bound)

pub new-requires : goal.new-requires
new-requires g c = IsColumn-from_few (of_author (g.S.Source.has c.args.source.now) c.args.author) (record { upto = c.loop-start.at - 1; holes = c.loop-start.holes.items }) (swept-end (of_author (g.S.Source.has c.args.source.now) c.args.author) c.loop-start.holes.items c.loop-start.at c.next_out-at.ensures.zero c.loop-start.invariant c.in_default.ensures.next) c.requires

pub returns-clause-means : goal.returns-clause-means
returns-clause-means g c = rw c.new.ensures (swept-end (of_author (g.S.Source.has c.args.source.now) c.args.author) c.loop-start.holes.items c.loop-start.at c.next_out-at.ensures.zero c.loop-start.invariant c.in_default.ensures.next)
