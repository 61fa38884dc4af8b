use Rattle.std.proofs.Common.{map, ap, sym, ◌∙◌}
use Rattle.std.specs.List.{list_any}
use Rattle.mr_mail.specs.Label.{text_eq}
use Rattle.mr_scan.specs.Folders.{folder_parts}
use Rattle.mr_scan.proofs.FolderLemmas.{pushed_first, kept_first}
use Rattle.mr_scan.proofs.folders.push_new.Goals as goal

pub returns-then-has_label : goal.returns-then-has_label
returns-then-has_label c =
    kept_first c.args.folders.now.items c.args.folder
    (ap (list_any (λ own. text_eq own.label c.args.folder.label)) (sym c.as_slice.ensures.value) ∙ (sym c.has_label.ensures ∙ c.if-has_label.true))

pub returns : goal.returns
returns c =
    ap (map folder_parts) c.in_ok-push.ensures.items
    ∙ pushed_first c.args.folders.now.items c.args.folder
    (ap (list_any (λ own. text_eq own.label c.args.folder.label)) (sym c.as_slice.ensures.value) ∙ (sym c.has_label.ensures ∙ c.if-has_label.false))
