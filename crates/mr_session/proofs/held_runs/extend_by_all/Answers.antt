use Rattle.std.proofs.Common.{map}
use Rattle.mr_store.specs.Revisions.{version_of}
use Rattle.mr_session.proofs.SoFarLemmas.{goes_on}
use Rattle.mr_session.proofs.held_runs.extend_by_all.Goals as goal

pub loop-first-preserved : goal.loop-first-preserved
loop-first-preserved c =
    let old = c.loop-first.growing in
    let turned = c.turn_to.new.growing in
    let new = c.extend.new.growing in
    let made = c.first_run-run in
    goes_on old.columns.items turned.columns.items new.columns.items old.author turned.author new.author old.upto turned.upto new.upto old.holes.items turned.holes.items new.holes.items
    c.loop-first.rest.now (map version_of c.args.revisions.now) c.in-Some.first.now c.version-version.result made.result.1 made.result.0 c.loop-first.invariant
    made.ensures.some made.ensures.within made.ensures.row made.ensures.author made.ensures.first made.ensures.last c.in_ok-turn_to.ensures (c.in_ok-fits.ensures c.if-not-fits.false)
