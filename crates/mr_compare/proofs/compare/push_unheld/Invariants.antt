use Rattle.std.proofs.Common.{◌≡◌, ◌++◌, map, take}
use Rattle.mr_compare.proofs.Names.{due_acts, standing_of_unheld}
use Rattle.mr_compare.proofs.compare.push_unheld.Given as goal

-- what is done for the mails so far
abbrev pub invariant-loop-digest : goal.invariant-loop-digest
invariant-loop-digest l = l.acts.items ≡ l.fn.acts.items ++ due_acts (map (standing_of_unheld l.sides) (take l.digest-index l.digests))
