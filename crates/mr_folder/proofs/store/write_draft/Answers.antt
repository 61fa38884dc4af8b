use Rattle.std.proofs.Common.{Some, []}
use Rattle.mr_folder.specs.Inside.{draft_path}
use Rattle.mr_folder.proofs.Moments.{sound_on, sound_still}
use Rattle.mr_folder.proofs.StoreSteps.{sound_draft, draft_still, draft_after, draft_on, at_path}
use Rattle.mr_folder.proofs.store.write_draft.Goals as goal

pub returns-in_err-draft-clause-sound : goal.returns-in_err-draft-clause-sound
returns-in_err-draft-clause-sound g c = λ told sound. sound_still _ (g.met.F.FileTree.only_now _) sound

pub returns-in_err-create-clause-sound : goal.returns-in_err-create-clause-sound
returns-in_err-create-clause-sound g c = λ told sound. sound_draft _ c.in_ok-draft.ensures (g.met.F.FileTree.only_now _) sound (c.create.ensures.only told) (c.create.ensures.crash told) (c.create.ensures.time told)

pub returns-in_err-append-clause-sound : goal.returns-in_err-append-clause-sound
returns-in_err-append-clause-sound g c = λ told sound.
    let made = sound_draft _ c.in_ok-draft.ensures (g.met.F.FileTree.only_now _) sound (c.create.ensures.only told) (c.create.ensures.crash told) (c.create.ensures.time told) in
    sound_on made (sound_draft _ c.in_ok-draft.ensures (g.met.F.FileTree.only_now _) made.sound (c.append.ensures.only told) (c.append.ensures.crash told) (c.append.ensures.time told))

pub returns-clause-written : goal.returns-clause-written
returns-clause-written g c = λ told. at_path (g.F.FileTree.seen c.append.new.self) c.in_ok-draft.draft draft_path (Some c.args.bytes.now) c.in_ok-draft.ensures (c.in_ok-append.ensures.written told [] (c.in_ok-create.ensures.made told))

pub returns-clause-sound : goal.returns-clause-sound
returns-clause-sound g c = λ told sound.
    let made = sound_draft _ c.in_ok-draft.ensures (g.met.F.FileTree.only_now _) sound (c.create.ensures.only told) (c.create.ensures.crash told) (c.create.ensures.time told) in
    sound_on made (sound_draft _ c.in_ok-draft.ensures (g.met.F.FileTree.only_now _) made.sound (c.append.ensures.only told) (c.append.ensures.crash told) (c.append.ensures.time told))

pub returns-in_err-draft-clause-crash : goal.returns-in_err-draft-clause-crash
returns-in_err-draft-clause-crash g c = λ told. draft_still _ (g.met.F.FileTree.only_now _)

pub returns-in_err-create-clause-crash : goal.returns-in_err-create-clause-crash
returns-in_err-create-clause-crash g c = λ told. draft_after _ c.in_ok-draft.ensures (g.met.F.FileTree.only_now _) (c.create.ensures.crash told) (c.create.ensures.time told)

pub returns-in_err-append-clause-crash : goal.returns-in_err-append-clause-crash
returns-in_err-append-clause-crash g c = λ told. draft_on (draft_after _ c.in_ok-draft.ensures (g.met.F.FileTree.only_now _) (c.create.ensures.crash told) (c.create.ensures.time told)) (draft_after _ c.in_ok-draft.ensures (g.met.F.FileTree.only_now _) (c.append.ensures.crash told) (c.append.ensures.time told))

pub returns-clause-crash : goal.returns-clause-crash
returns-clause-crash g c = λ told. draft_on (draft_after _ c.in_ok-draft.ensures (g.met.F.FileTree.only_now _) (c.create.ensures.crash told) (c.create.ensures.time told)) (draft_after _ c.in_ok-draft.ensures (g.met.F.FileTree.only_now _) (c.append.ensures.crash told) (c.append.ensures.time told))
