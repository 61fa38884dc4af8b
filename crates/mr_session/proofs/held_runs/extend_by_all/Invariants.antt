use Rattle.std.proofs.Common.{map, length}
use Rattle.mr_store.specs.Revisions.{version_of}
use Rattle.mr_session.proofs.SoFarLemmas.{SoFar}
use Rattle.mr_session.proofs.held_runs.extend_by_all.Given as goal

abbrev pub invariant-loop-first : goal.invariant-loop-first
invariant-loop-first l = SoFar l.growing.columns.items l.growing.author l.growing.upto l.growing.holes.items l.rest (map version_of l.revisions)

abbrev pub decreases-loop-first : goal.decreases-loop-first
decreases-loop-first l = length l.rest
