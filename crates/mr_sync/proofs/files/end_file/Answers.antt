use Rattle.mr_folder.proofs.Moments.{sound_still}
use Rattle.mr_sync.proofs.files.end_file.Goals as goal

pub returns-then-left-ne0-clause-sound : goal.returns-then-left-ne0-clause-sound
returns-then-left-ne0-clause-sound g c = λ told come has sound. sound_still _ (g.met.F.FileTree.only_now _) sound
