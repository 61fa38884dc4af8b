use Rattle.std.proofs.Common.{sym, ap, ◌∙◌}
use Rattle.mr_folder.specs.Tree.{MayGo}
use Rattle.mr_folder.proofs.Moments.{sound_untouched, sound_on}
use Rattle.mr_folder.proofs.ShowLemmas.{go_none, go_keeps, none_from, sound_apart, no_step, no_crash, then_step, then_crash}
use Rattle.mr_folder.proofs.show.unlink.Goals as goal

pub returns-in_err-has-clause-files : goal.returns-in_err-has-clause-files
returns-in_err-has-clause-files g c = λ told. no_step (MayGo c.args.path.now) (go_none c.args.path.now) (c.has.ensures.untouched told)

pub returns-in_err-has-clause-crash : goal.returns-in_err-has-clause-crash
returns-in_err-has-clause-crash g c = λ told. no_crash (MayGo c.args.path.now) (go_none c.args.path.now) (c.has.ensures.untouched told)

pub returns-in_err-has-clause-sound : goal.returns-in_err-has-clause-sound
returns-in_err-has-clause-sound g c = λ told apart sound. sound_untouched (c.has.ensures.untouched told) sound

pub returns-then-not-branch-clause-files : goal.returns-then-not-branch-clause-files
returns-then-not-branch-clause-files g c = λ told. no_step (MayGo c.args.path.now) (go_none c.args.path.now) (c.has.ensures.untouched told)

pub returns-then-not-branch-clause-crash : goal.returns-then-not-branch-clause-crash
returns-then-not-branch-clause-crash g c = λ told. no_crash (MayGo c.args.path.now) (go_none c.args.path.now) (c.has.ensures.untouched told)

pub returns-then-not-branch-clause-sound : goal.returns-then-not-branch-clause-sound
returns-then-not-branch-clause-sound g c = λ told apart sound. sound_untouched (c.has.ensures.untouched told) sound

pub returns-in_err-remove-clause-files : goal.returns-in_err-remove-clause-files
returns-in_err-remove-clause-files g c = λ told. then_step (MayGo c.args.path.now) (c.has.ensures.untouched told) (c.remove.ensures.files told)

pub returns-in_err-remove-clause-crash : goal.returns-in_err-remove-clause-crash
returns-in_err-remove-clause-crash g c = λ told. then_crash (MayGo c.args.path.now) (c.has.ensures.untouched told) (c.remove.ensures.crash told)

pub returns-in_err-remove-clause-sound : goal.returns-in_err-remove-clause-sound
returns-in_err-remove-clause-sound g c = λ told apart sound.
    let first = sound_untouched (c.has.ensures.untouched told) sound in
    sound_on first (sound_apart (MayGo c.args.path.now) (go_keeps c.args.path.now apart) (g.met.F.FileTree.only_now _) first.sound (c.remove.ensures.files told) (c.remove.ensures.crash told) (c.remove.ensures.time told))

pub returns-clause-files : goal.returns-clause-files
returns-clause-files g c = λ told. then_step (MayGo c.args.path.now) (c.has.ensures.untouched told) (c.remove.ensures.files told)

pub returns-clause-crash : goal.returns-clause-crash
returns-clause-crash g c = λ told. then_crash (MayGo c.args.path.now) (c.has.ensures.untouched told) (c.remove.ensures.crash told)

pub returns-clause-sound : goal.returns-clause-sound
returns-clause-sound g c = λ told apart sound.
    let first = sound_untouched (c.has.ensures.untouched told) sound in
    sound_on first (sound_apart (MayGo c.args.path.now) (go_keeps c.args.path.now apart) (g.met.F.FileTree.only_now _) first.sound (c.remove.ensures.files told) (c.remove.ensures.crash told) (c.remove.ensures.time told))

pub returns-then-not-branch-clause-gone : goal.returns-then-not-branch-clause-gone
returns-then-not-branch-clause-gone g c = λ told. sym c.if-not-branch.true ∙ c.in_ok-has.ensures.has told

pub returns-then-not-branch-clause-none : goal.returns-then-not-branch-clause-none
returns-then-not-branch-clause-none g c = λ told. ap (λ t. t c.args.path.now) ((c.has.ensures.untouched told).same) ∙ none_from (g.F.FileTree.seen c.args.files.now c.args.path.now) (sym (c.in_ok-has.ensures.has told) ∙ c.if-not-branch.true)

pub returns-clause-gone : goal.returns-clause-gone
returns-clause-gone g c = λ told. sym c.if-not-branch.false ∙ c.in_ok-has.ensures.has told
