-- Vouch: a replica gives its word that it holds a version as a head.
use Rattle.std.specs.Prelude.{◌≡◌, ℕ, not, Option, Some}
use Rattle.mr_version.specs.Name.{Name}
use Rattle.mr_madewith.specs.Revision.{Rev}
use Rattle.mr_store.specs.Revisions.{revision_of, holds}
use Rattle.mr_wire.specs.declared.frame.Receipt.{Receipt}
use Rattle.mr_replica.specs.State.{State}
use Rattle.mr_replica.specs.Refusal.{◌orelse◌, refused_if}
use Rattle.mr_replica.specs.Admission.{retired, log_full}
use Rattle.mr_replica.specs.declared.refusal.Refusal.{Refusal}
use Rattle.mr_replica.specs.declared.refusal.Refusal.TheVariants.{NotHeld}

-- the giver's receipt for a revision
abbrev pub receipt_for : (giver : ℕ) → Rev → Receipt
receipt_for giver r = record { giver = giver; descent = record { item = r.item; version = r.version; below = r.below } }

module _ {K : Type 0} where
  -- why it is refused: a version that is only known, or a push-out, is not vouched for
  abbrev pub vouch_refusal : State K → Name → Option Refusal
  vouch_refusal s version = retired s orelse refused_if (not (holds s.heads version)) (NotHeld version) orelse log_full s

  -- the receipt is of the head of that version
  abbrev pub IsReceiptFor : State K → Name → Receipt → Type 0
  IsReceiptFor s version receipt = (r : Rev) × (revision_of s.heads version ≡ Some r) × (receipt ≡ receipt_for s.id r)
