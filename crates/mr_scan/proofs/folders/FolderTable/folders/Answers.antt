use Rattle.std.proofs.Common.{ap, sym, ◌∙◌}
use Rattle.mr_scan.specs.Folders.{are_apart}
use Rattle.mr_scan.proofs.FolderLemmas.{found_apart}
use Rattle.mr_scan.proofs.folders.FolderTable.folders.Goals as goal

pub returns-clause-told : goal.returns-clause-told
returns-clause-told c =
    λ folder among. found_apart c.args.self.now.folders folder (sym (ap (λ t. are_apart t.folders) c.self.view_is) ∙ c.self.invariant) among
