use Rattle.std.proofs.Common.{◌≡◌, take, map, string_bytes}
use Rattle.mr_folder.proofs.Names.{filter_map, step_of, stored_name, target, tree_of}
use Rattle.mr_folder.proofs.memory.names_of.Given as goal

abbrev pub invariant-loop-at : goal.invariant-loop-at
invariant-loop-at l = map (λ s. string_bytes s) l.names.items ≡ filter_map (stored_name (tree_of (map step_of l.changes.items))) (take l.at (map target (map step_of l.changes.items)))
