use Rattle.std.proofs.Common.{◌≡◌, ◌||◌, ℕ, List}
use Rattle.std.specs.BTreeMap.{values}
use Rattle.mr_fold.specs.Lacking.{has_digest}
use Rattle.mr_fold.specs.inner.Lacking.{is_stored}
use Rattle.mr_fold.proofs.lacking.stored_digests.Given as goal

-- the digests so far and those of the mails that are left are all
abbrev pub invariant-loop-stored : goal.invariant-loop-stored
invariant-loop-stored l = (digest : List ℕ) → (has_digest l.digests.keys digest || is_stored l.stored-iterator digest) ≡ is_stored (values l.index) digest
