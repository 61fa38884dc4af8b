use Rattle.std.proofs.Common.{◌≡◌, ◌++◌, drop, map, string_bytes}
use Rattle.mr_maildir.proofs.Names.{flat_map}
use Rattle.mr_maildir.specs.Counts.{ended}
use Rattle.mr_maildir.proofs.lines.push_others.Given as goal

abbrev pub invariant-loop-other : goal.invariant-loop-other
invariant-loop-other l = string_bytes l.text ++ flat_map ended (map string_bytes (drop l.other-index l.others)) ≡ string_bytes l.fn.text ++ flat_map ended (map string_bytes l.others)
