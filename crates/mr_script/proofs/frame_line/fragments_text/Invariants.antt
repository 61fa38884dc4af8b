use Rattle.std.proofs.Common.{◌≡◌, string_bytes, ◌++◌, take}
use Rattle.mr_script.proofs.Names.{codes, flat_map, piece_text}
use Rattle.mr_script.proofs.frame_line.fragments_text.Given as goal

abbrev pub invariant-loop-fragment : goal.invariant-loop-fragment
invariant-loop-fragment l =
    string_bytes l.text ≡ string_bytes l.initial.text ++ flat_map (λ piece. codes "; " ++ piece_text piece) (take l.fragment-index l.others)
