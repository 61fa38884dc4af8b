use Rattle.std.proofs.Common.{◌≡◌, ◌++◌, map, take}
use Rattle.mr_store.specs.FragmentIndex.{listing_at}
use Rattle.mr_store.proofs.fragment_index.list_all.Given as goal

abbrev pub invariant-loop-item : goal.invariant-loop-item
invariant-loop-item l = l.listings.items ≡ l.initial.listings.items ++ map (listing_at l.place) (take l.item-index l.items)
