use Rattle.std.proofs.Common.{◌≡◌, Some, ap, ◌∙◌}
use Rattle.mr_folder.specs.Tree.{MayLink}
use Rattle.mr_folder.proofs.Moments.{sound_untouched, sound_on, after_untouched, after_call, untouched_then}
use Rattle.mr_folder.proofs.ShowLemmas.{link_none, no_step, then_step}
use Rattle.mr_folder.proofs.StoreSteps.{sound_link}
use Rattle.mr_folder.proofs.store.link_once.Goals as goal

pub returns-in_err-has-clause-sound : goal.returns-in_err-has-clause-sound
returns-in_err-has-clause-sound g c = λ told digest bytes to_is fits here durable is sound. sound_untouched (c.has.ensures.untouched told) sound

pub returns-then-branch-clause-sound : goal.returns-then-branch-clause-sound
returns-then-branch-clause-sound g c = λ told digest bytes to_is fits here durable is sound. sound_untouched (c.has.ensures.untouched told) sound

pub returns-clause-sound : goal.returns-clause-sound
returns-clause-sound g c = λ told digest bytes to_is fits here durable is sound.
    let untouched = c.has.ensures.untouched told in
    let first = sound_untouched untouched sound in
    let still : g.F.FileTree.seen c.has.new.self c.args.from.now ≡ Some bytes = ap (λ t. t c.args.from.now) untouched.same ∙ here in
    sound_on first (sound_link c.args.from.now c.args.to.now digest bytes to_is fits is still (λ t left. durable t (untouched.no_more t left)) (g.met.F.FileTree.only_now _) first.sound (c.link.ensures.files told) (c.link.ensures.crash told) (c.link.ensures.time told))

pub returns-in_err-has-clause-only : goal.returns-in_err-has-clause-only
returns-in_err-has-clause-only g c = λ told. no_step (MayLink c.args.from.now c.args.to.now) (link_none c.args.from.now c.args.to.now) (c.has.ensures.untouched told)

pub returns-then-branch-clause-only : goal.returns-then-branch-clause-only
returns-then-branch-clause-only g c = λ told. no_step (MayLink c.args.from.now c.args.to.now) (link_none c.args.from.now c.args.to.now) (c.has.ensures.untouched told)

pub returns-clause-only : goal.returns-clause-only
returns-clause-only g c = λ told. then_step (MayLink c.args.from.now c.args.to.now) (c.has.ensures.untouched told) (c.link.ensures.files told)

pub returns-in_err-has-clause-crash : goal.returns-in_err-has-clause-crash
returns-in_err-has-clause-crash g c = λ told. after_untouched (MayLink c.args.from.now c.args.to.now) (link_none c.args.from.now c.args.to.now) (c.has.ensures.untouched told)

pub returns-then-branch-clause-crash : goal.returns-then-branch-clause-crash
returns-then-branch-clause-crash g c = λ told. after_untouched (MayLink c.args.from.now c.args.to.now) (link_none c.args.from.now c.args.to.now) (c.has.ensures.untouched told)

pub returns-clause-crash : goal.returns-clause-crash
returns-clause-crash g c = λ told. untouched_then (MayLink c.args.from.now c.args.to.now) (link_none c.args.from.now c.args.to.now) (c.has.ensures.untouched told) (after_call (MayLink c.args.from.now c.args.to.now) (link_none c.args.from.now c.args.to.now) (g.met.F.FileTree.only_now _) (c.link.ensures.crash told) (c.link.ensures.time told))
