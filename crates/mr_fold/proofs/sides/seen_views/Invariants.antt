use Rattle.mr_fold.proofs.SeeingLemmas.{SeenSoFar}
use Rattle.mr_fold.proofs.sides.seen_views.Given as goal

-- so far each mail is seen in its files
abbrev pub invariant-loop-digest : goal.invariant-loop-digest
invariant-loop-digest l = SeenSoFar l.scan.mails.entries l.digest-iterator l.views.items
