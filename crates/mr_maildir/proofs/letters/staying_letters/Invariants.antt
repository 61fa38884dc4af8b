use Rattle.std.proofs.Common.{◌≡◌, ◌-◌, string_bytes}
use Rattle.mr_maildir.proofs.Names.{filter, range_with_len, stays_on}
use Rattle.mr_maildir.proofs.letters.staying_letters.Given as goal

abbrev pub invariant-loop-byte : goal.invariant-loop-byte
invariant-loop-byte l = string_bytes l.text ≡ filter (stays_on l.letters l.flags) (range_with_len 33 (l.byte - 33))
