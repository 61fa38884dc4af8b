use Rattle.std.proofs.Common.{◌≡◌, ◌++◌, take}
use Rattle.mr_wire.proofs.Names.{All, IsFramed, flat_map, fragment_bytes}
use Rattle.mr_wire.proofs.encoding.put_fragments.Given as goal

abbrev pub invariant-loop-fragment : goal.invariant-loop-fragment
invariant-loop-fragment l = record { written : l.out.items ≡ l.fn.out.items ++ flat_map fragment_bytes (take l.fragment-index l.fragments); in_grammar : All IsFramed (take l.fragment-index l.fragments) }
