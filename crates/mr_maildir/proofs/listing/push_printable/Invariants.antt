use Rattle.std.proofs.Common.{◌≡◌, ◌++◌, flat_map, string_bytes}
use Rattle.mr_maildir.proofs.Names.{encode_utf8_all, printed_char}
use Rattle.mr_maildir.proofs.listing.push_printable.Given as goal

abbrev pub invariant-loop-character : goal.invariant-loop-character
invariant-loop-character l = string_bytes l.line ≡ string_bytes l.fn.line ++ flat_map (λ c. encode_utf8_all (printed_char c)) l.yielded
