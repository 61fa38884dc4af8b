use Rattle.std.proofs.Common.{◌≡◌, ◌++◌, drop, map}
use Rattle.mr_store.specs.FragmentIndex.{listings_from}
use Rattle.mr_store.proofs.fragment_index.all_listings.Given as goal

-- the listings so far and those of what is left are all
abbrev pub invariant-loop-place : goal.invariant-loop-place
invariant-loop-place g l = l.listings.items ++ listings_from l.place (map g.F.AsFragment.listed (drop l.place l.fragments)) ≡ listings_from 0 (map g.F.AsFragment.listed l.fragments)
