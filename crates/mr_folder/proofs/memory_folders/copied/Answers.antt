use Rattle.std.proofs.Common.{◌++◌, ◌∷◌, [], map, string_bytes, ap, ◌∙◌, arith}
use Rattle.mr_folder.proofs.MemoryFolderLemmas.{more_names}
use Rattle.mr_folder.proofs.memory_folders.copied.Goals as goal

pub loop-name-preserved : goal.loop-name-preserved
loop-name-preserved c =
    more_names c.args.names.now c.loop-name.name-index c.name-item.result (map (λ s. string_bytes s) c.loop-name.copy.items) (map (λ s. string_bytes s) c.push_name.new.names.items)
    (let lt = c.loop-name-test.true in omega arith) c.name-item.is c.loop-name.invariant
    (c.in_ok-push_name.ensures ∙ ap (λ n. map (λ s. string_bytes s) c.loop-name.copy.items ++ n ∷ []) c.as_str.ensures.value)
