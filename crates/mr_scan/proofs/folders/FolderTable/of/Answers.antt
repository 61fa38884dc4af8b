use Rattle.std.proofs.Common.{ap, ◌∙◌, not, filter, map}
use Rattle.std.specs.List.{filter_map}
use Rattle.mr_scan.specs.Folders.{are_apart, folder_parts, folder_there, folders_there, is_path_of}
use Rattle.mr_scan.proofs.FolderLemmas.{apart-first_of_each, without-parts}
use Rattle.mr_scan.proofs.folders.FolderTable.of.Goals as goal

pub invariant_of-result : goal.invariant_of-result
invariant_of-result c =
    ap are_apart c.in_ok-folders.ensures ∙ apart-first_of_each (filter_map (folder_there c.args.layout) c.in_ok-copies.copies.items)

pub returns-clause-passed_over : goal.returns-clause-passed_over
returns-clause-passed_over c =
    c.paths_without-passed_over.ensures
    ∙ (without-parts c.deref-2.result.now c.args.paths.items
    ∙ ap (λ folders. filter (λ path. not (is_path_of folders path)) c.args.paths.items)
    (ap (map folder_parts) c.deref-2.ensures.value ∙ (c.in_ok-folders.ensures ∙ ap (folders_there c.args.layout) (c.in_ok-copies.ensures ∙ c.deref.ensures.value))))
