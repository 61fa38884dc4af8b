use Rattle.std.proofs.Common.{◌↔◌, IsTrue, ap, ◌∙◌, subst}
use Rattle.mr_folder.proofs.Names.{HasRoom, MayLink}
use Rattle.mr_folder.proofs.Moments.{sound_untouched, sound_on}
use Rattle.mr_folder.proofs.ShowLemmas.{link_none, link_keeps, sound_apart, no_step, no_crash, then_step, then_crash}
use Rattle.mr_folder.proofs.show.link.Goals as goal

pub returns-in_err-has_room-clause-files : goal.returns-in_err-has_room-clause-files
returns-in_err-has_room-clause-files g c = λ told. no_step (MayLink c.args.from.now c.args.to.now) (link_none c.args.from.now c.args.to.now) (c.has_room.ensures.untouched told)

pub returns-in_err-has_room-clause-crash : goal.returns-in_err-has_room-clause-crash
returns-in_err-has_room-clause-crash g c = λ told. no_crash (MayLink c.args.from.now c.args.to.now) (link_none c.args.from.now c.args.to.now) (c.has_room.ensures.untouched told)

pub returns-in_err-has_room-clause-sound : goal.returns-in_err-has_room-clause-sound
returns-in_err-has_room-clause-sound g c = λ told apart sound. sound_untouched (c.has_room.ensures.untouched told) sound

pub returns-then-not-branch-clause-files : goal.returns-then-not-branch-clause-files
returns-then-not-branch-clause-files g c = λ told. no_step (MayLink c.args.from.now c.args.to.now) (link_none c.args.from.now c.args.to.now) (c.has_room.ensures.untouched told)

pub returns-then-not-branch-clause-crash : goal.returns-then-not-branch-clause-crash
returns-then-not-branch-clause-crash g c = λ told. no_crash (MayLink c.args.from.now c.args.to.now) (link_none c.args.from.now c.args.to.now) (c.has_room.ensures.untouched told)

pub returns-then-not-branch-clause-sound : goal.returns-then-not-branch-clause-sound
returns-then-not-branch-clause-sound g c = λ told apart sound. sound_untouched (c.has_room.ensures.untouched told) sound

pub returns-in_err-link-clause-files : goal.returns-in_err-link-clause-files
returns-in_err-link-clause-files g c = λ told. then_step (MayLink c.args.from.now c.args.to.now) (c.has_room.ensures.untouched told) (c.link.ensures.files told)

pub returns-in_err-link-clause-crash : goal.returns-in_err-link-clause-crash
returns-in_err-link-clause-crash g c = λ told. then_crash (MayLink c.args.from.now c.args.to.now) (c.has_room.ensures.untouched told) (c.link.ensures.crash told)

pub returns-in_err-link-clause-sound : goal.returns-in_err-link-clause-sound
returns-in_err-link-clause-sound g c = λ told apart sound.
    let first = sound_untouched (c.has_room.ensures.untouched told) sound in
    sound_on first (sound_apart (MayLink c.args.from.now c.args.to.now) (link_keeps c.args.from.now c.args.to.now apart) (g.met.F.FileTree.only_now _) first.sound (c.link.ensures.files told) (c.link.ensures.crash told) (c.link.ensures.time told))

pub returns-clause-files : goal.returns-clause-files
returns-clause-files g c = λ told. then_step (MayLink c.args.from.now c.args.to.now) (c.has_room.ensures.untouched told) (c.link.ensures.files told)

pub returns-clause-crash : goal.returns-clause-crash
returns-clause-crash g c = λ told. then_crash (MayLink c.args.from.now c.args.to.now) (c.has_room.ensures.untouched told) (c.link.ensures.crash told)

pub returns-clause-sound : goal.returns-clause-sound
returns-clause-sound g c = λ told apart sound.
    let first = sound_untouched (c.has_room.ensures.untouched told) sound in
    sound_on first (sound_apart (MayLink c.args.from.now c.args.to.now) (link_keeps c.args.from.now c.args.to.now apart) (g.met.F.FileTree.only_now _) first.sound (c.link.ensures.files told) (c.link.ensures.crash told) (c.link.ensures.time told))

pub returns-then-not-branch-clause-linked : goal.returns-then-not-branch-clause-linked
returns-then-not-branch-clause-linked g c = λ told. subst (λ b. IsTrue b ↔ HasRoom c.args.from.now c.args.to.now (g.F.FileTree.seen c.args.files.now)) c.if-not-branch.true (c.in_ok-has_room.ensures.room told)

pub returns-clause-linked : goal.returns-clause-linked
returns-clause-linked g c = λ told. subst (λ b. IsTrue b ↔ HasRoom c.args.from.now c.args.to.now (g.F.FileTree.seen c.args.files.now)) c.if-not-branch.false (c.in_ok-has_room.ensures.room told)

pub returns-clause-there : goal.returns-clause-there
returns-clause-there g c = λ told yes. c.in_ok-link.ensures.linked told ∙ ap (λ t. t c.args.from.now) ((c.has_room.ensures.untouched told).same)
