use Rattle.std.proofs.Common.{◌≡◌, codes, string_bytes, ◌++◌, take}
use Rattle.mr_script.proofs.Names.{decimal, spaced_names}
use Rattle.mr_script.proofs.holding.conflicts_line.Given as goal

abbrev pub invariant-loop-item : goal.invariant-loop-item
invariant-loop-item l =
    string_bytes l.line ≡ codes "conflicts " ++ decimal l.fn.replica ++ codes ":" ++ spaced_names (take l.item-index l.items)
