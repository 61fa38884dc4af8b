use Rattle.std.proofs.Common.{◌<◌, length, map, string_bytes, sym, ap, ◌∙◌, arith}
use Rattle.mr_folder.proofs.Names.{length-map, option_copied, step_of, stored_name, target, tree_of}
use Rattle.mr_folder.proofs.HeldLemmas.{one_more}
use Rattle.mr_folder.proofs.MemoryNames.{target_at}
use Rattle.mr_folder.proofs.memory.names_of.Goals as goal

pub loop-at-preserved : goal.loop-at-preserved
loop-at-preserved c =
    let changes = c.args.changes.now.items in
    let a = length-map changes step_of in
    let b = length-map (map step_of changes) target in
    let lt = c.loop-at-test.true in
    let within : c.loop-at.at < length (map target (map step_of changes)) = omega arith in
    one_more (stored_name (tree_of (map step_of changes))) (map target (map step_of changes)) c.loop-at.at (target (step_of c.index.result.now))
    (map (λ s. string_bytes s) c.loop-at.names.items) (map (λ s. string_bytes s) c.push_some.new.names.items) (option_copied c.name_of.result)
    within c.loop-at.invariant
    (ap (stored_name (tree_of (map step_of changes))) (target_at changes c.loop-at.at c.index.result.now (omega arith) c.index.ensures) ∙ sym c.name_of.ensures)
    c.in_ok-push_some.ensures
