use Rattle.std.proofs.Common.{◌≡◌, take}
use Rattle.mr_sync.proofs.Names.{flat_map, hellos_bytes}
use Rattle.mr_sync.proofs.idle.write_hellos.Given as goal

abbrev pub invariant-loop-talk : goal.invariant-loop-talk
invariant-loop-talk l = l.out.items ≡ flat_map hellos_bytes (take l.talk-index l.talks)
