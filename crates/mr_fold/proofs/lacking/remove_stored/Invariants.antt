use Rattle.std.proofs.Common.{◌≡◌, ℕ, List}
use Rattle.std.specs.Prelude.{not, ◌&&◌}
use Rattle.std.specs.BTreeMap.{values}
use Rattle.mr_fold.specs.Lacking.{has_digest}
use Rattle.mr_fold.specs.inner.Lacking.{is_stored}
use Rattle.mr_fold.proofs.lacking.remove_stored.Given as goal

-- without those that are left to be removed it is without all
abbrev pub invariant-loop-stored : goal.invariant-loop-stored
invariant-loop-stored l = (digest : List ℕ)
    → (has_digest l.mails.keys digest && not (is_stored l.stored-iterator digest)) ≡ (has_digest l.fn.mails.keys digest && not (is_stored (values l.index) digest))
