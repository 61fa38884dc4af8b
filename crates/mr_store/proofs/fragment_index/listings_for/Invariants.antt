use Rattle.std.proofs.Common.{◌≡◌, ◌≤◌, ◌<◌, ◌-◌, ℕ, true, length, get_or}
use Rattle.mr_store.proofs.Names.{Listing, is_for}
use Rattle.mr_store.proofs.fragment_index.listings_for.Given as goal

-- those so far are of the item
abbrev pub invariant-loop-to : goal.invariant-loop-to
invariant-loop-to l = record {
  begins : l.from ≤ l.to;
  within : l.to ≤ length l.listings;
  all_are : (k : ℕ) (d : Listing) → l.from ≤ k → k < l.to → is_for l.item (get_or l.listings k d) ≡ true;
}

abbrev pub decreases-loop-to : goal.decreases-loop-to
decreases-loop-to l = length l.listings - l.to
