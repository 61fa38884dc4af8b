use Rattle.std.proofs.Common.{◌≡◌, map, take}
use Rattle.mr_desk.specs.Version.{numbers_of}
use Rattle.mr_c.proofs.conflicts.numbers_of.Given as goal

abbrev pub invariant-loop-item : goal.invariant-loop-item
invariant-loop-item l = l.numbers.items ≡ map numbers_of (take l.item-index l.items)
