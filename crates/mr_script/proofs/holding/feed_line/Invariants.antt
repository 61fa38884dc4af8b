use Rattle.std.proofs.Common.{◌≡◌, codes, string_bytes, ◌++◌, take}
use Rattle.mr_script.proofs.Names.{decimal, entry_text, flat_map}
use Rattle.mr_script.proofs.holding.feed_line.Given as goal

abbrev pub invariant-loop-entry : goal.invariant-loop-entry
invariant-loop-entry l =
    string_bytes l.line ≡ codes "feed " ++ decimal l.fn.replica ++ codes ":" ++ flat_map (λ entry. codes " " ++ entry_text entry) (take l.entry-index l.entries)
