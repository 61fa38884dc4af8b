use Rattle.std.proofs.Common.{◌≡◌, ◌++◌, filter}
use Rattle.mr_compare.proofs.Names.{is_absent, keys}
use Rattle.mr_compare.proofs.mails_left.seen_unheld.Given as goal

-- the digests so far and those of the keys that are left are all
abbrev pub invariant-loop-digest : goal.invariant-loop-digest
invariant-loop-digest l = l.digests.items ++ filter (is_absent l.items.entries) l.digest-iterator ≡ filter (is_absent l.items.entries) (keys l.seen)
