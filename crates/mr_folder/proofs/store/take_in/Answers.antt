use Rattle.std.proofs.Common.{subst, sym, ◌∙◌}
use Rattle.std.proofs.lemmas.Bool.{false≢true}
use Rattle.mr_folder.proofs.Names.{IsBytes, LeavesAfter, OnlyStored}
use Rattle.mr_folder.proofs.KeepLemmas.{IsBytes-sha256, keeps_behind, stored_untouched}
use Rattle.mr_folder.proofs.Moments.{sound_on, sound_untouched}
use Rattle.mr_folder.proofs.StoreSteps.{stored_on}
use Rattle.mr_folder.proofs.store.take_in.Goals as goal

pub returns-in_err-is_there-clause-sound : goal.returns-in_err-is_there-clause-sound
returns-in_err-is_there-clause-sound g c = λ told sound. sound_untouched (c.keep_mail.ensures.untouched told) sound

pub returns-then-is_there-clause-sound : goal.returns-then-is_there-clause-sound
returns-then-is_there-clause-sound g c = λ told sound. sound_untouched (c.keep_mail.ensures.untouched told) sound

pub returns-in_err-write_in-clause-keeps : goal.returns-in_err-write_in-clause-keeps
returns-in_err-write_in-clause-keeps g c = λ told.
    keeps_behind c.digest-digest.result (subst IsBytes (sym c.digest-digest.ensures) (IsBytes-sha256 c.args.bytes.now)) (λ mail. false≢true (sym c.if-is_there.false ∙ (c.in_ok-is_there.ensures.has told).1 mail)) (c.keep_mail.ensures.untouched told) (c.write_in.ensures.only told) (c.write_in.ensures.crash told)

pub returns-in_err-write_in-clause-crash : goal.returns-in_err-write_in-clause-crash
returns-in_err-write_in-clause-crash g c = λ told.
    subst (λ d. LeavesAfter (OnlyStored d) g.F.FileTree.may_leave g.F.FileTree.moment g.F.FileTree.left_since c.args.files.now c.write_in.new.files) c.digest-digest.ensures
    (stored_on c.digest-digest.result (stored_untouched c.digest-digest.result (c.keep_mail.ensures.untouched told)) (c.write_in.ensures.crash told))

pub returns-in_err-write_in-clause-sound : goal.returns-in_err-write_in-clause-sound
returns-in_err-write_in-clause-sound g c = λ told sound.
    let looked = sound_untouched (c.keep_mail.ensures.untouched told) sound in
    sound_on looked (c.write_in.ensures.sound told looked.sound)

pub returns-clause-kept : goal.returns-clause-kept
returns-clause-kept g c = λ told sound. c.in_ok-write_in.ensures.kept told (sound_untouched (c.keep_mail.ensures.untouched told) sound).sound

pub returns-clause-keeps : goal.returns-clause-keeps
returns-clause-keeps g c = λ told.
    keeps_behind c.digest-digest.result (subst IsBytes (sym c.digest-digest.ensures) (IsBytes-sha256 c.args.bytes.now)) (λ mail. false≢true (sym c.if-is_there.false ∙ (c.in_ok-is_there.ensures.has told).1 mail)) (c.keep_mail.ensures.untouched told) (c.write_in.ensures.only told) (c.write_in.ensures.crash told)

pub returns-clause-crash : goal.returns-clause-crash
returns-clause-crash g c = λ told.
    subst (λ d. LeavesAfter (OnlyStored d) g.F.FileTree.may_leave g.F.FileTree.moment g.F.FileTree.left_since c.args.files.now c.write_in.new.files) c.digest-digest.ensures
    (stored_on c.digest-digest.result (stored_untouched c.digest-digest.result (c.keep_mail.ensures.untouched told)) (c.write_in.ensures.crash told))

pub returns-clause-sound : goal.returns-clause-sound
returns-clause-sound g c = λ told sound.
    let looked = sound_untouched (c.keep_mail.ensures.untouched told) sound in
    sound_on looked (c.write_in.ensures.sound told looked.sound)
