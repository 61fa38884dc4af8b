use Rattle.std.proofs.Common.{All, length}
use Rattle.mr_fold.proofs.PartsLemmas.{PartsSoFar}
use Rattle.mr_fold.proofs.settling.settle_in_parts.Given as goal

-- so far whole parts are told, and all mails are shown for which files had to be moved
abbrev pub invariant-loop-rest : goal.invariant-loop-rest
invariant-loop-rest g l = record {
  parts : PartsSoFar g.D.Device g.F.MailFiles.are_synced l.held.entries l.lacking l.moved l.standing l.rest l.fn.kept l.kept l.files;
  shown : All (g.F.MailFiles.is_shown l.files) l.moved;
}

abbrev pub decreases-loop-rest : goal.decreases-loop-rest
decreases-loop-rest g l = length l.rest
