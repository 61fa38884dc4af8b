use Rattle.std.proofs.Common.{◌↔◌, IsTrue, is_some, sym, ap, ◌∙◌, subst}
use Rattle.mr_folder.proofs.Names.{HasRoom, MayMove, false≢true}
use Rattle.mr_folder.proofs.Moments.{sound_untouched, sound_on}
use Rattle.mr_folder.proofs.ShowLemmas.{apart_of_room, move_none, move_keeps, sound_apart, no_step, no_crash, then_step, then_crash}
use Rattle.mr_folder.proofs.show.replace.Goals as goal

pub returns-in_err-has_room-clause-files : goal.returns-in_err-has_room-clause-files
returns-in_err-has_room-clause-files g c = λ told. no_step (MayMove c.args.from.now c.args.to.now) (move_none c.args.from.now c.args.to.now) (c.has_room.ensures.untouched told)

pub returns-in_err-has_room-clause-crash : goal.returns-in_err-has_room-clause-crash
returns-in_err-has_room-clause-crash g c = λ told. no_crash (MayMove c.args.from.now c.args.to.now) (move_none c.args.from.now c.args.to.now) (c.has_room.ensures.untouched told)

pub returns-in_err-has_room-clause-sound : goal.returns-in_err-has_room-clause-sound
returns-in_err-has_room-clause-sound g c = λ told from_apart to_apart sound. sound_untouched (c.has_room.ensures.untouched told) sound

pub returns-in_err-has_room-clause-over : goal.returns-in_err-has_room-clause-over
returns-in_err-has_room-clause-over g c = λ told there. (c.has_room.ensures.untouched told).same

pub returns-then-not-branch-clause-files : goal.returns-then-not-branch-clause-files
returns-then-not-branch-clause-files g c = λ told. no_step (MayMove c.args.from.now c.args.to.now) (move_none c.args.from.now c.args.to.now) (c.has_room.ensures.untouched told)

pub returns-then-not-branch-clause-crash : goal.returns-then-not-branch-clause-crash
returns-then-not-branch-clause-crash g c = λ told. no_crash (MayMove c.args.from.now c.args.to.now) (move_none c.args.from.now c.args.to.now) (c.has_room.ensures.untouched told)

pub returns-then-not-branch-clause-sound : goal.returns-then-not-branch-clause-sound
returns-then-not-branch-clause-sound g c = λ told from_apart to_apart sound. sound_untouched (c.has_room.ensures.untouched told) sound

pub returns-then-not-branch-clause-over : goal.returns-then-not-branch-clause-over
returns-then-not-branch-clause-over g c = λ told there. (c.has_room.ensures.untouched told).same

pub returns-in_err-rename-clause-files : goal.returns-in_err-rename-clause-files
returns-in_err-rename-clause-files g c = λ told. then_step (MayMove c.args.from.now c.args.to.now) (c.has_room.ensures.untouched told) (c.rename.ensures.files told)

pub returns-in_err-rename-clause-crash : goal.returns-in_err-rename-clause-crash
returns-in_err-rename-clause-crash g c = λ told. then_crash (MayMove c.args.from.now c.args.to.now) (c.has_room.ensures.untouched told) (c.rename.ensures.crash told)

pub returns-in_err-rename-clause-sound : goal.returns-in_err-rename-clause-sound
returns-in_err-rename-clause-sound g c = λ told from_apart to_apart sound.
    let first = sound_untouched (c.has_room.ensures.untouched told) sound in
    sound_on first (sound_apart (MayMove c.args.from.now c.args.to.now) (move_keeps c.args.from.now c.args.to.now from_apart to_apart) (g.met.F.FileTree.only_now _) first.sound (c.rename.ensures.files told) (c.rename.ensures.crash told) (c.rename.ensures.time told))

pub returns-in_err-rename-clause-over : goal.returns-in_err-rename-clause-over
returns-in_err-rename-clause-over g c = λ told there. absurd (false≢true (sym (ap is_some (((c.in_ok-has_room.ensures.room told).0 c.if-not-branch.false).free)) ∙ there))

pub returns-clause-files : goal.returns-clause-files
returns-clause-files g c = λ told. then_step (MayMove c.args.from.now c.args.to.now) (c.has_room.ensures.untouched told) (c.rename.ensures.files told)

pub returns-clause-crash : goal.returns-clause-crash
returns-clause-crash g c = λ told. then_crash (MayMove c.args.from.now c.args.to.now) (c.has_room.ensures.untouched told) (c.rename.ensures.crash told)

pub returns-clause-sound : goal.returns-clause-sound
returns-clause-sound g c = λ told from_apart to_apart sound.
    let first = sound_untouched (c.has_room.ensures.untouched told) sound in
    sound_on first (sound_apart (MayMove c.args.from.now c.args.to.now) (move_keeps c.args.from.now c.args.to.now from_apart to_apart) (g.met.F.FileTree.only_now _) first.sound (c.rename.ensures.files told) (c.rename.ensures.crash told) (c.rename.ensures.time told))

pub returns-clause-over : goal.returns-clause-over
returns-clause-over g c = λ told there. absurd (false≢true (sym (ap is_some (((c.in_ok-has_room.ensures.room told).0 c.if-not-branch.false).free)) ∙ there))

pub returns-then-not-branch-clause-moved : goal.returns-then-not-branch-clause-moved
returns-then-not-branch-clause-moved g c = λ told. subst (λ b. IsTrue b ↔ HasRoom c.args.from.now c.args.to.now (g.F.FileTree.seen c.args.files.now)) c.if-not-branch.true (c.in_ok-has_room.ensures.room told)

pub returns-clause-moved : goal.returns-clause-moved
returns-clause-moved g c = λ told. subst (λ b. IsTrue b ↔ HasRoom c.args.from.now c.args.to.now (g.F.FileTree.seen c.args.files.now)) c.if-not-branch.false (c.in_ok-has_room.ensures.room told)

pub returns-clause-there : goal.returns-clause-there
returns-clause-there g c = λ told yes. c.in_ok-rename.ensures.moved told ∙ ap (λ t. t c.args.from.now) ((c.has_room.ensures.untouched told).same)

pub returns-clause-gone : goal.returns-clause-gone
returns-clause-gone g c = λ told yes. c.in_ok-rename.ensures.gone told (apart_of_room c.args.from.now c.args.to.now (g.F.FileTree.seen c.args.files.now) ((c.in_ok-has_room.ensures.room told).0 c.if-not-branch.false))
