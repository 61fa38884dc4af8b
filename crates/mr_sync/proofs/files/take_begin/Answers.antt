use Rattle.mr_folder.proofs.KeepLemmas.{keeps_draft}
use Rattle.mr_folder.proofs.Moments.{sound_still}
use Rattle.mr_sync.proofs.files.take_begin.Goals as goal

pub returns-then-is_some-clause-sound : goal.returns-then-is_some-clause-sound
returns-then-is_some-clause-sound g c = λ told sound. sound_still _ (g.met.F.FileTree.only_now _) sound

pub returns-in_default-clause-sound : goal.returns-in_default-clause-sound
returns-in_default-clause-sound g c = λ told sound. sound_still _ (g.met.F.FileTree.only_now _) sound

pub returns-in_err-incoming-clause-mails : goal.returns-in_err-incoming-clause-mails
returns-in_err-incoming-clause-mails g c = λ told. keeps_draft (c.begin.ensures.only told) (c.begin.ensures.crash told)

pub returns-clause-mails : goal.returns-clause-mails
returns-clause-mails g c = λ told. keeps_draft (c.begin.ensures.only told) (c.begin.ensures.crash told)
