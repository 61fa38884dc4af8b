use Rattle.std.proofs.Common.{◌≡◌, ◌++◌, map, take}
use Rattle.mr_compare.proofs.Names.{due_acts, standing_of_held}
use Rattle.mr_compare.proofs.compare.push_held.Given as goal

-- what is done for the mails so far
abbrev pub invariant-loop-mail : goal.invariant-loop-mail
invariant-loop-mail l = l.acts.items ≡ l.fn.acts.items ++ due_acts (map (standing_of_held l.sides) (take l.mail-index l.mails))
