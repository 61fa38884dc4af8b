use Rattle.std.proofs.Common.{[], Some}
use Rattle.mr_folder.specs.Inside.{draft_path}
use Rattle.mr_folder.proofs.Moments.{sound_still}
use Rattle.mr_folder.proofs.StoreSteps.{sound_draft, draft_still, draft_after, only_at, at_path}
use Rattle.mr_folder.proofs.store.begin.Goals as goal

pub returns-in_err-draft-clause-sound : goal.returns-in_err-draft-clause-sound
returns-in_err-draft-clause-sound g c = λ told sound. sound_still _ (g.met.F.FileTree.only_now _) sound

pub returns-in_err-create-clause-only : goal.returns-in_err-create-clause-only
returns-in_err-create-clause-only g c = λ told. only_at _ _ c.in_ok-draft.ensures (c.create.ensures.only told)

pub returns-in_err-create-clause-sound : goal.returns-in_err-create-clause-sound
returns-in_err-create-clause-sound g c = λ told sound. sound_draft _ c.in_ok-draft.ensures (g.met.F.FileTree.only_now _) sound (c.create.ensures.only told) (c.create.ensures.crash told) (c.create.ensures.time told)

pub returns-clause-begun : goal.returns-clause-begun
returns-clause-begun g c = λ told. record { held = c.new.ensures; written = at_path (g.F.FileTree.seen c.create.new.self) c.in_ok-draft.draft draft_path (Some []) c.in_ok-draft.ensures (c.in_ok-create.ensures.made told) }

pub returns-clause-only : goal.returns-clause-only
returns-clause-only g c = λ told. only_at _ _ c.in_ok-draft.ensures (c.create.ensures.only told)

pub returns-clause-sound : goal.returns-clause-sound
returns-clause-sound g c = λ told sound. sound_draft _ c.in_ok-draft.ensures (g.met.F.FileTree.only_now _) sound (c.create.ensures.only told) (c.create.ensures.crash told) (c.create.ensures.time told)

pub returns-in_err-draft-clause-crash : goal.returns-in_err-draft-clause-crash
returns-in_err-draft-clause-crash g c = λ told. draft_still _ (g.met.F.FileTree.only_now _)

pub returns-in_err-create-clause-crash : goal.returns-in_err-create-clause-crash
returns-in_err-create-clause-crash g c = λ told. draft_after _ c.in_ok-draft.ensures (g.met.F.FileTree.only_now _) (c.create.ensures.crash told) (c.create.ensures.time told)

pub returns-clause-crash : goal.returns-clause-crash
returns-clause-crash g c = λ told. draft_after _ c.in_ok-draft.ensures (g.met.F.FileTree.only_now _) (c.create.ensures.crash told) (c.create.ensures.time told)
