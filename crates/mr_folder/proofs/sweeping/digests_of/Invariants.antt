use Rattle.std.proofs.Common.{◌≡◌, take, map, string_bytes}
use Rattle.mr_folder.proofs.Names.{digest_of, filter_map}
use Rattle.mr_folder.proofs.sweeping.digests_of.Given as goal

abbrev pub invariant-loop-name : goal.invariant-loop-name
invariant-loop-name l = l.digests.items ≡ filter_map digest_of (take l.name-index (map (λ s. string_bytes s) l.names.items))
