use Rattle.std.proofs.Common.{◌≡◌, map, string_bytes, IfOk, slice_index_or, [], length, ◌≤◌, sym, ap, ◌∙◌, subst, arith}
use Rattle.mr_folder.proofs.Names.{get_or-eq_default, texts}
use Rattle.mr_folder.proofs.QuietLemmas.{length-texts}
use Rattle.mr_folder.proofs.MemoryFolderLemmas.{texts_at}
use Rattle.mr_folder.proofs.memory_folders.names_in.Goals as goal

pub returns-then-folder-len : goal.returns-then-folder-len
returns-then-folder-len c =
    let folders = c.args.folders.now.items in
    let here : map (λ s. string_bytes s) c.deref.result.now ≡ slice_index_or (texts folders) c.args.folder [] = ap (λ l. map (λ s. string_bytes s) l) c.deref.ensures.value ∙ sym (texts_at folders c.args.folder c.index.result.now (let lt = c.if-folder-len.true in omega arith) c.index.ensures) in
    subst (λ l. IfOk c.copied.result (λ copy. map (λ s. string_bytes s) copy.items ≡ l)) here c.copied.ensures

pub returns-else-folder-len : goal.returns-else-folder-len
returns-else-folder-len c =
    let folders = c.args.folders.now.items in
    let long = length-texts folders in
    let past : length (texts folders) ≤ c.args.folder = (let le = c.if-folder-len.false in omega arith) in
    ap (λ l. map (λ s. string_bytes s) l) c.new.ensures.items ∙ sym (get_or-eq_default (texts folders) [] past)
