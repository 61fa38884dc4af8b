use Rattle.std.proofs.Common.{◌≡◌, ◌++◌, ℕ, Bool, List, filter}
use Rattle.mr_compare.proofs.Names.{is_absent, keys, ◌&&◌}
use Rattle.mr_compare.proofs.mails_left.push_left.Given as goal

-- the digests so far and those of the keys that are left are all
abbrev pub invariant-loop-digest : goal.invariant-loop-digest
invariant-loop-digest l = let is_new : List ℕ → Bool = λ digest. is_absent l.items.entries digest && is_absent l.sides.seen.entries digest in
    l.digests.items ++ filter is_new l.digest-iterator ≡ l.fn.digests.items ++ filter is_new (keys l.sides.left)
