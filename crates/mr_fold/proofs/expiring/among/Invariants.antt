use Rattle.std.proofs.Common.{◌≡◌, take}
use Rattle.std.specs.Prelude.{filter}
use Rattle.mr_fold.specs.Lacking.{has_digest}
use Rattle.mr_fold.proofs.expiring.among.Given as goal

-- those among the digests so far
abbrev pub invariant-loop-digest : goal.invariant-loop-digest
invariant-loop-digest l = l.found.items ≡ filter (has_digest l.mails.keys) (take l.digest-index l.digests)
