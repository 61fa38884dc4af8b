use Rattle.std.proofs.Common.{◌≡◌, Some, ap, ◌∙◌, subst}
use Rattle.mr_folder.specs.Tree.{MayLink, NoneOr}
use Rattle.mr_folder.proofs.Moments.{sound_untouched, sound_on, after_untouched, untouched_then, then_untouched}
use Rattle.mr_folder.proofs.ShowLemmas.{link_none, no_step, then_step, step_then}
use Rattle.mr_folder.proofs.store.link_synced.Goals as goal

pub returns-in_err-sync-clause-sound : goal.returns-in_err-sync-clause-sound
returns-in_err-sync-clause-sound g c = λ told digest bytes to_is fits here is sound. sound_untouched (c.sync.ensures.untouched told) sound

pub returns-in_err-link_once-clause-sound : goal.returns-in_err-link_once-clause-sound
returns-in_err-link_once-clause-sound g c = λ told digest bytes to_is fits here is sound.
    let untouched = c.sync.ensures.untouched told in
    let first = sound_untouched untouched sound in
    let still : g.F.FileTree.seen c.sync.new.self c.args.from.now ≡ Some bytes = ap (λ t. t c.args.from.now) untouched.same ∙ here in
    let durable = subst (λ o. NoneOr c.args.from.now o (g.F.FileTree.may_leave c.sync.new.self)) here (c.in_ok-sync.ensures.durable told) in
    sound_on first (c.link_once.ensures.sound told digest bytes to_is fits still durable is first.sound)

pub returns-clause-sound : goal.returns-clause-sound
returns-clause-sound g c = λ told digest bytes to_is fits here is sound.
    let untouched = c.sync.ensures.untouched told in
    let first = sound_untouched untouched sound in
    let still : g.F.FileTree.seen c.sync.new.self c.args.from.now ≡ Some bytes = ap (λ t. t c.args.from.now) untouched.same ∙ here in
    let durable = subst (λ o. NoneOr c.args.from.now o (g.F.FileTree.may_leave c.sync.new.self)) here (c.in_ok-sync.ensures.durable told) in
    let second = c.link_once.ensures.sound told digest bytes to_is fits still durable is first.sound in
    sound_on first (sound_on second (sound_untouched (c.sync_path.ensures.untouched told) second.sound))

pub returns-in_err-sync-clause-only : goal.returns-in_err-sync-clause-only
returns-in_err-sync-clause-only g c = λ told. no_step (MayLink c.args.from.now c.args.to.now) (link_none c.args.from.now c.args.to.now) (c.sync.ensures.untouched told)

pub returns-in_err-link_once-clause-only : goal.returns-in_err-link_once-clause-only
returns-in_err-link_once-clause-only g c = λ told. then_step (MayLink c.args.from.now c.args.to.now) (c.sync.ensures.untouched told) (c.link_once.ensures.only told)

pub returns-clause-only : goal.returns-clause-only
returns-clause-only g c = λ told. step_then (MayLink c.args.from.now c.args.to.now) (then_step (MayLink c.args.from.now c.args.to.now) (c.sync.ensures.untouched told) (c.link_once.ensures.only told)) (c.sync_path.ensures.untouched told)

pub returns-in_err-sync-clause-crash : goal.returns-in_err-sync-clause-crash
returns-in_err-sync-clause-crash g c = λ told. after_untouched (MayLink c.args.from.now c.args.to.now) (link_none c.args.from.now c.args.to.now) (c.sync.ensures.untouched told)

pub returns-in_err-link_once-clause-crash : goal.returns-in_err-link_once-clause-crash
returns-in_err-link_once-clause-crash g c = λ told. untouched_then (MayLink c.args.from.now c.args.to.now) (link_none c.args.from.now c.args.to.now) (c.sync.ensures.untouched told) (c.link_once.ensures.crash told)

pub returns-clause-crash : goal.returns-clause-crash
returns-clause-crash g c = λ told. then_untouched (MayLink c.args.from.now c.args.to.now) (untouched_then (MayLink c.args.from.now c.args.to.now) (link_none c.args.from.now c.args.to.now) (c.sync.ensures.untouched told) (c.link_once.ensures.crash told)) (c.sync_path.ensures.untouched told)
