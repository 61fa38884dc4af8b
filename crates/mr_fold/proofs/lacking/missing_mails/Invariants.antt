use Rattle.std.proofs.Common.{◌≡◌, ℕ, List, take}
use Rattle.std.specs.BTreeMap.{values}
use Rattle.mr_fold.specs.Lacking.{has_digest}
use Rattle.mr_fold.specs.inner.Lacking.{is_missing}
use Rattle.mr_fold.proofs.lacking.missing_mails.Given as goal

-- the missing ones of the mails so far
abbrev pub invariant-loop-mail : goal.invariant-loop-mail
invariant-loop-mail l = (digest : List ℕ) → has_digest l.lacking.keys digest ≡ is_missing (values l.index) (take l.mail-index l.mails) digest
