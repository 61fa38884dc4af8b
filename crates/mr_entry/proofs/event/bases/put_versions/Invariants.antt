use Rattle.std.proofs.Common.{◌≡◌, ◌++◌, take}
use Rattle.mr_entry.proofs.Names.{All, IsItem, flat_map, name_bytes}
use Rattle.mr_entry.proofs.event.bases.put_versions.Given as goal

abbrev pub invariant-loop-version : goal.invariant-loop-version
invariant-loop-version l = record { written : l.out.items ≡ l.fn.out.items ++ flat_map name_bytes (take l.version-index l.versions); in_grammar : All IsItem (take l.version-index l.versions) }
