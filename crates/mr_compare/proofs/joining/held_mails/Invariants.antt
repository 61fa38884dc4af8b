use Rattle.std.proofs.Common.{◌≡◌, ◌++◌}
use Rattle.mr_compare.proofs.Names.{flat_map, held_entry}
use Rattle.mr_compare.proofs.joining.held_mails.Given as goal

-- the mails so far and those of the entries that are left are all
abbrev pub invariant-loop-digest : goal.invariant-loop-digest
invariant-loop-digest l = l.mails.items ++ flat_map held_entry l.digest-iterator ≡ flat_map held_entry l.items.entries
