use Rattle.std.proofs.Common.{refl, rules}
use Rattle.mr_folder.proofs.KeepLemmas.{keeps_still}
use Rattle.mr_sync.proofs.host.FolderHostHost.keep_files.Goals as goal

pub returns-clause-step : goal.returns-clause-step
returns-clause-step g c = record {
  comes = (search rules, refl);
  keeps = λ told. keeps_still _ (g.met.F.FileTree.only_now _);
}
