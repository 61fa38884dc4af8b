use Rattle.std.proofs.Common.{◌≡◌, ◌||◌, ℕ, List, take}
use Rattle.std.specs.List.{list_any}
use Rattle.std.specs.Ordering.{is_eq}
use Rattle.mr_mail.specs.Label.{text_cmp}
use Rattle.mr_fold.specs.Lacking.{has_digest}
use Rattle.mr_fold.proofs.expiring.insert_all.Given as goal

-- those that were there, and the ones added so far
abbrev pub invariant-loop-digest : goal.invariant-loop-digest
invariant-loop-digest l = (digest : List ℕ) → has_digest l.digests.keys digest
    ≡ (has_digest l.fn.digests.keys digest || list_any (λ (other : List ℕ). is_eq (text_cmp other digest)) (take l.digest-index l.more))
