use Rattle.std.proofs.Common.{◌++◌, Some, sym}
use Rattle.mr_folder.specs.Inside.{draft_path}
use Rattle.mr_folder.proofs.Moments.{sound_still}
use Rattle.mr_folder.proofs.StoreSteps.{sound_draft, draft_still, draft_after, only_at, at_path}
use Rattle.mr_folder.proofs.store.append.Goals as goal

pub returns-in_err-draft-clause-sound : goal.returns-in_err-draft-clause-sound
returns-in_err-draft-clause-sound g c = λ told sound. sound_still _ (g.met.F.FileTree.only_now _) sound

pub returns-in_err-append-clause-only : goal.returns-in_err-append-clause-only
returns-in_err-append-clause-only g c = λ told. only_at _ _ c.in_ok-draft.ensures (c.append.ensures.only told)

pub returns-in_err-append-clause-sound : goal.returns-in_err-append-clause-sound
returns-in_err-append-clause-sound g c = λ told sound. sound_draft _ c.in_ok-draft.ensures (g.met.F.FileTree.only_now _) sound (c.append.ensures.only told) (c.append.ensures.crash told) (c.append.ensures.time told)

pub returns-clause-grown : goal.returns-clause-grown
returns-clause-grown g c = λ told come has. record {
  held = c.update.ensures come has.held;
  written = at_path (g.F.FileTree.seen c.append.new.self) c.in_ok-draft.draft draft_path (Some (come ++ c.args.bytes.now)) c.in_ok-draft.ensures (c.in_ok-append.ensures.written told come (at_path (g.F.FileTree.seen c.args.files.now) draft_path c.in_ok-draft.draft (Some come) (sym c.in_ok-draft.ensures) has.written));
}

pub returns-clause-only : goal.returns-clause-only
returns-clause-only g c = λ told. only_at _ _ c.in_ok-draft.ensures (c.append.ensures.only told)

pub returns-clause-sound : goal.returns-clause-sound
returns-clause-sound g c = λ told sound. sound_draft _ c.in_ok-draft.ensures (g.met.F.FileTree.only_now _) sound (c.append.ensures.only told) (c.append.ensures.crash told) (c.append.ensures.time told)

pub returns-in_err-draft-clause-crash : goal.returns-in_err-draft-clause-crash
returns-in_err-draft-clause-crash g c = λ told. draft_still _ (g.met.F.FileTree.only_now _)

pub returns-in_err-append-clause-crash : goal.returns-in_err-append-clause-crash
returns-in_err-append-clause-crash g c = λ told. draft_after _ c.in_ok-draft.ensures (g.met.F.FileTree.only_now _) (c.append.ensures.crash told) (c.append.ensures.time told)

pub returns-clause-crash : goal.returns-clause-crash
returns-clause-crash g c = λ told. draft_after _ c.in_ok-draft.ensures (g.met.F.FileTree.only_now _) (c.append.ensures.crash told) (c.append.ensures.time told)
