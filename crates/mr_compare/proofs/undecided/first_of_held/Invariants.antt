use Rattle.std.proofs.Common.{◌≡◌, drop, map}
use Rattle.mr_compare.proofs.Names.{first_undecided, standing_of_held}
use Rattle.mr_compare.proofs.undecided.first_of_held.Given as goal

-- the first one is among those that are left
abbrev pub invariant-loop-mail : goal.invariant-loop-mail
invariant-loop-mail l = first_undecided (map (standing_of_held l.sides) l.mails) ≡ first_undecided (map (standing_of_held l.sides) (drop l.mail-index l.mails))
