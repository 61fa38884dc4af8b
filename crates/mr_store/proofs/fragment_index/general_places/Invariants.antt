use Rattle.std.proofs.Common.{◌≡◌, ◌++◌, drop, map}
use Rattle.mr_store.specs.FragmentIndex.{general_from}
use Rattle.mr_store.proofs.fragment_index.general_places.Given as goal

-- the places so far and those of what is left are all
abbrev pub invariant-loop-place : goal.invariant-loop-place
invariant-loop-place g l = l.places.items ++ general_from l.place (map g.F.AsFragment.listed (drop l.place l.fragments)) ≡ general_from 0 (map g.F.AsFragment.listed l.fragments)
