use Rattle.std.proofs.Common.{◌≡◌, ℕ, List, take}
use Rattle.mr_fold.specs.Expiring.{is_needed}
use Rattle.mr_fold.specs.Lacking.{has_digest}
use Rattle.mr_fold.proofs.expiring.needed_among.Given as goal

-- those of the heads so far
abbrev pub invariant-loop-mail : goal.invariant-loop-mail
invariant-loop-mail l = (digest : List ℕ) → has_digest l.needed.keys digest ≡ is_needed (take l.mail-index l.heads) digest
