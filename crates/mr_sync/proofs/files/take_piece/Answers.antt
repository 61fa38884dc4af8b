use Rattle.mr_folder.proofs.Moments.{sound_still}
use Rattle.mr_sync.proofs.files.take_piece.Goals as goal

pub returns-in_default-clause-sound : goal.returns-in_default-clause-sound
returns-in_default-clause-sound g c = λ told sound. sound_still _ (g.met.F.FileTree.only_now _) sound

pub returns-then-size-file-clause-sound : goal.returns-then-size-file-clause-sound
returns-then-size-file-clause-sound g c = λ told sound. sound_still _ (g.met.F.FileTree.only_now _) sound
