use Rattle.std.proofs.Common.{◌≡◌, ℕ, List, take}
use Rattle.mr_fold.specs.inner.Expiring.{is_gone_among}
use Rattle.mr_fold.specs.Lacking.{has_digest}
use Rattle.mr_fold.proofs.expiring.gone_among.Given as goal

-- those of the heads so far
abbrev pub invariant-loop-mail : goal.invariant-loop-mail
invariant-loop-mail l = (digest : List ℕ) → has_digest l.gone.keys digest ≡ is_gone_among (take l.mail-index l.heads) l.needed.keys digest
