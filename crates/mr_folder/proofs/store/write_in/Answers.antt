use Rattle.std.proofs.Common.{inl, sym}
use Rattle.mr_folder.proofs.Names.{stored_path}
use Rattle.mr_folder.proofs.Moments.{sound_on}
use Rattle.mr_folder.proofs.StoreSteps.{draft_place, stored_draft, stored_on}
use Rattle.mr_folder.proofs.TreeLemmas.{draft_apart}
use Rattle.mr_folder.proofs.store.write_in.Goals as goal

pub returns-clause-kept : goal.returns-clause-kept
returns-clause-kept g c = λ told sound. c.place.ensures.kept told c.args.bytes.now (c.in_ok-write_draft.ensures.written told) c.requires ((c.write_draft.ensures.sound told sound).sound)

pub returns-clause-sound : goal.returns-clause-sound
returns-clause-sound g c = λ told sound.
    let draft = c.write_draft.ensures.sound told sound in
    sound_on draft (c.place.ensures.sound told c.args.bytes.now (c.in_ok-write_draft.ensures.written told) c.requires draft.sound)

pub returns-in_err-write_draft-clause-place : goal.returns-in_err-write_draft-clause-place
returns-in_err-write_draft-clause-place g c = λ told. inl (c.write_draft.ensures.only told (stored_path c.args.digest.now) (λ e. draft_apart c.args.digest.now (sym e)))

pub returns-clause-place : goal.returns-clause-place
returns-clause-place g c = λ told. draft_place c.args.digest.now c.args.bytes.now (g.F.FileTree.seen c.args.files.now) (g.F.FileTree.seen c.write_draft.new.files) (g.F.FileTree.seen c.place.new.files) (c.write_draft.ensures.only told) (c.place.ensures.place told c.args.bytes.now (c.in_ok-write_draft.ensures.written told))

pub returns-in_err-write_draft-clause-crash : goal.returns-in_err-write_draft-clause-crash
returns-in_err-write_draft-clause-crash g c = λ told. stored_draft c.args.digest.now (c.write_draft.ensures.crash told)

pub returns-clause-crash : goal.returns-clause-crash
returns-clause-crash g c = λ told. stored_on c.args.digest.now (stored_draft c.args.digest.now (c.write_draft.ensures.crash told)) (c.place.ensures.crash told)
