use Rattle.mr_session.specs.inner.Held.{extent}
use Rattle.mr_session.proofs.GrowingLemmas.{closes}
use Rattle.mr_session.proofs.held_runs.put_column.Goals as goal

pub returns : goal.returns
returns c = rw (c.in_ok-push.ensures.items, c.new-column.ensures) (closes c.args.columns.now.items c.args.author (extent c.args.upto c.args.holes.items) c.requires c.if-upto-eq0.false c.id-range.ensures.in_range)
