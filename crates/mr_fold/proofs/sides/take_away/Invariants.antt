use Rattle.std.proofs.Common.{◌≡◌, All, false, take}
use Rattle.mr_compare.specs.Tally.{deletes}
use Rattle.mr_fold.proofs.sides.take_away.Given as goal

-- none of the acts so far is a deletion
abbrev pub invariant-loop-mail : goal.invariant-loop-mail
invariant-loop-mail l = All (λ mail. deletes mail.act ≡ false) (take l.mail-index l.acts)
