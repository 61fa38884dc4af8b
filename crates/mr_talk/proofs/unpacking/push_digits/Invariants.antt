use Rattle.std.proofs.Common.{◌≡◌, ◌++◌, take}
use Rattle.mr_talk.proofs.Names.{flat_map, two_digits}
use Rattle.mr_talk.proofs.unpacking.push_digits.Given as goal

abbrev pub invariant-loop-byte : goal.invariant-loop-byte
invariant-loop-byte l = l.text.items ≡ l.fn.text.items ++ flat_map two_digits (take l.byte-index l.bytes)
