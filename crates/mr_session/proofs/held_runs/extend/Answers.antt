use Rattle.mr_session.specs.inner.Held.{extent}
use Rattle.mr_session.proofs.GrowingLemmas.{extends_last}
use Rattle.mr_session.proofs.held_runs.extend.Goals as goal

pub returns : goal.returns
returns c =
    let growing = c.args.growing.now in
    λ fits. extends_last growing.columns.items growing.author (extent growing.upto growing.holes.items) c.args.run c.put_hole.new.holes.items c.requires.grown c.requires.author c.requires.above (c.in_ok-fits.ensures.holes fits) (c.in_ok-fits.ensures.few fits)
