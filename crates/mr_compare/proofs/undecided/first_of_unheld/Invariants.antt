use Rattle.std.proofs.Common.{◌≡◌, drop, map}
use Rattle.mr_compare.proofs.Names.{first_undecided, standing_of_unheld}
use Rattle.mr_compare.proofs.undecided.first_of_unheld.Given as goal

-- the first one is among those that are left
abbrev pub invariant-loop-digest : goal.invariant-loop-digest
invariant-loop-digest l = first_undecided (map (standing_of_unheld l.sides) l.digests) ≡ first_undecided (map (standing_of_unheld l.sides) (drop l.digest-index l.digests))
