use Rattle.std.proofs.Common.{◌≡◌, take, map}
use Rattle.mr_mail.specs.Flag.{flag_name}
use Rattle.mr_script.proofs.show.joined_flags.Given as goal

abbrev pub invariant-loop-flag : goal.invariant-loop-flag
invariant-loop-flag l = map (λ t. t.now) l.names.items ≡ map flag_name (take l.flag-index l.flag-items)
