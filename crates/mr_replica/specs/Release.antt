-- Release: push-outs for which another replica vouches are let go.
use Rattle.std.specs.Prelude.{not, Option, List, ◌∷◌, [], filter}
use Rattle.std.specs.List.{list_any}
use Rattle.mr_forms.specs.Sets.{Versions}
use Rattle.mr_madewith.specs.Revision.{Rev}
use Rattle.mr_store.specs.Leaving.{leaves}
use Rattle.mr_store.specs.Revisions.{supersedes, left_by}
use Rattle.mr_wire.specs.Values.{DescentParts}
use Rattle.mr_wire.specs.declared.frame.Receipt.{Receipt}
use Rattle.mr_replica.specs.State.{State}
use Rattle.mr_replica.specs.Refusal.{◌orelse◌, refused_if}
use Rattle.mr_replica.specs.Admission.{retired, log_full}
use Rattle.mr_replica.specs.Issue.{told_more}
use Rattle.mr_replica.specs.declared.refusal.Refusal.{Refusal}
use Rattle.mr_replica.specs.declared.refusal.Refusal.TheVariants.{NotPushedOut}

-- the version that is vouched for, and what it supersedes
abbrev pub vouched : DescentParts → Versions
vouched descent = leaves (descent.version ∷ []) descent.below

module _ {K : Type 0} where
  -- why it is refused: no push-out of the item is the version that is vouched for, or superseded by it
  abbrev pub release_refusal : State K → Receipt → Option Refusal
  release_refusal s receipt =
      retired s orelse refused_if (not (list_any (supersedes receipt.descent.item (vouched receipt.descent)) s.push_outs)) NotPushedOut orelse log_full s

  -- the push-outs that a receipt is for
  abbrev pub released : State K → Receipt → List Rev
  released s receipt = filter (supersedes receipt.descent.item (vouched receipt.descent)) s.push_outs

  -- the push-outs leave that a receipt vouches for, and their feed tells it
  abbrev pub releasing : State K → Receipt → State K
  releasing s receipt = record s {
    push_outs = left_by receipt.descent.item (vouched receipt.descent) s.push_outs;
    push_out_feed = told_more s.push_out_feed (released s receipt) [];
  }
