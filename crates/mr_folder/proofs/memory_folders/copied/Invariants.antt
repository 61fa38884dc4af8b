use Rattle.std.proofs.Common.{◌≡◌, take, map, string_bytes}
use Rattle.mr_folder.proofs.memory_folders.copied.Given as goal

abbrev pub invariant-loop-name : goal.invariant-loop-name
invariant-loop-name l = map (λ s. string_bytes s) l.copy.items ≡ map (λ s. string_bytes s) (take l.name-index l.names)
