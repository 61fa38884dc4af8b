use Rattle.std.proofs.Common.{ap, ◌∙◌}
use Rattle.std.specs.Prelude.{find, option_map}
use Rattle.mr_mail.specs.Label.{text_eq}
use Rattle.mr_scan.specs.Folders.{folder_of, folder_parts}
use Rattle.mr_scan.proofs.FolderLemmas.{find-parts}
use Rattle.mr_scan.proofs.folders.FolderTable.at.Goals as goal

pub returns : goal.returns
returns c =
    ap (option_map folder_parts) c.folder_in.ensures
    ∙ (ap (λ folders. option_map folder_parts (find (λ folder. text_eq folder.label c.args.label.now) folders)) c.as_slice.ensures.value
    ∙ (find-parts c.args.label.now c.self.inside.folders.items ∙ ap (λ table. folder_of table.folders c.args.label.now) c.self.view_is))
