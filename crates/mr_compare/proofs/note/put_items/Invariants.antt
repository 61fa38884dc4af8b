use Rattle.std.proofs.Common.{◌≡◌, ◌++◌, take}
use Rattle.mr_compare.proofs.Names.{All, IsItem, flat_map, name_bytes}
use Rattle.mr_compare.proofs.note.put_items.Given as goal

abbrev pub invariant-loop-item : goal.invariant-loop-item
invariant-loop-item l = record { written : l.out.items ≡ l.fn.out.items ++ flat_map name_bytes (take l.item-index l.items); in_grammar : All IsItem (take l.item-index l.items) }
