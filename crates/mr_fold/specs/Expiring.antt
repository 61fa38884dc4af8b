-- deleted mail, whose files aren't needed any more
use Rattle.std.specs.Prelude.{◌≡◌, ℕ, Bool, not, ◌&&◌, List}
use Rattle.std.specs.List.{list_any}
use Rattle.std.specs.Ordering.{is_eq}
use Rattle.mr_version.specs.Name.{Name}
use Rattle.mr_madewith.specs.Revision.{Rev}
use Rattle.mr_mail.specs.Label.{text_cmp}
use Rattle.mr_maildir.specs.View.{is_gone}
use Rattle.mr_compare.specs.Held.{AreRead}
use Rattle.mr_compare.specs.declared.held.Head.{Head}
use Rattle.mr_fold.specs.Lacking.{has_digest}

-- one of the heads is of the mail of the digest, and has it stand otherwise than gone
abbrev pub is_needed : List ((List ℕ × Name) × Head) → List ℕ → Bool
is_needed heads digest = list_any (λ (e : (List ℕ × Name) × Head). not (is_gone e.1.view) && is_eq (text_cmp e.0.0 digest)) heads

-- a set has the digests of the mails that these revisions need
pub record AreNeeded (revisions : List Rev) (needed : List (List ℕ)) : Type 0 where
  pub heads : List ((List ℕ × Name) × Head)
  pub are_read : AreRead revisions heads
  pub are : (digest : List ℕ) → has_digest needed digest ≡ is_needed heads digest
