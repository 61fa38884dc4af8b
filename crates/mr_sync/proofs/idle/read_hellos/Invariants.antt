use Rattle.std.proofs.Common.{◌≡◌, ◌++◌, length}
use Rattle.mr_sync.proofs.Names.{AllByRecursion, IsHellos, flat_map, hellos_bytes}
use Rattle.mr_sync.proofs.idle.read_hellos.Given as goal

abbrev pub invariant-loop : goal.invariant-loop
invariant-loop l = (l.fn.bytes ≡ flat_map hellos_bytes l.talks.items ++ l.rest) × AllByRecursion IsHellos l.talks.items × (length l.talks.items ≡ l.counter)
