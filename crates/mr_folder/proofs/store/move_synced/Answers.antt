use Rattle.std.proofs.Common.{◌≡◌, Some, sym, ap, ◌∙◌, subst}
use Rattle.mr_folder.proofs.Names.{MayMove, NoneOr, draft_path}
use Rattle.mr_folder.proofs.Moments.{sound_untouched, sound_on, after_untouched, after_call, untouched_then, then_untouched}
use Rattle.mr_folder.proofs.StoreSteps.{sound_move, unmoved}
use Rattle.mr_folder.proofs.ShowLemmas.{move_none}
use Rattle.mr_folder.proofs.store.move_synced.Goals as goal

pub returns-in_err-sync-clause-only : goal.returns-in_err-sync-clause-only
returns-in_err-sync-clause-only g c = λ told. unmoved _ _ _ _ ((c.sync.ensures.untouched told).same)

pub returns-in_err-sync-clause-sound : goal.returns-in_err-sync-clause-sound
returns-in_err-sync-clause-sound g c = λ told digest bytes from_is to_is fits here is sound. sound_untouched (c.sync.ensures.untouched told) sound

pub returns-in_err-rename-clause-only : goal.returns-in_err-rename-clause-only
returns-in_err-rename-clause-only g c = λ told. subst (λ t. MayMove c.args.draft.now c.args.stored.now t (g.F.FileTree.seen c.rename.new.self)) ((c.sync.ensures.untouched told).same) (c.rename.ensures.files told)

pub returns-in_err-rename-clause-sound : goal.returns-in_err-rename-clause-sound
returns-in_err-rename-clause-sound g c = λ told digest bytes from_is to_is fits here is sound.
    let first = sound_untouched (c.sync.ensures.untouched told) sound in
    let still : g.F.FileTree.seen c.sync.new.self draft_path ≡ Some bytes = ap (λ t. t draft_path) ((c.sync.ensures.untouched told).same) ∙ here in
    let durable = subst (λ o. NoneOr c.args.draft.now o (g.F.FileTree.may_leave c.sync.new.self)) (ap (g.F.FileTree.seen c.args.files.now) from_is ∙ here) (c.in_ok-sync.ensures.durable told) in
    sound_on first (sound_move c.args.draft.now c.args.stored.now digest bytes from_is to_is fits is still durable (g.met.F.FileTree.only_now _) first.sound (c.rename.ensures.files told) (c.rename.ensures.crash told) (c.rename.ensures.time told))

pub returns-clause-only : goal.returns-clause-only
returns-clause-only g c = λ told.
    let moved = subst (λ t. MayMove c.args.draft.now c.args.stored.now t (g.F.FileTree.seen c.rename.new.self)) ((c.sync.ensures.untouched told).same) (c.rename.ensures.files told) in
    subst (λ t. MayMove c.args.draft.now c.args.stored.now (g.F.FileTree.seen c.args.files.now) t) (sym ((c.sync_path.ensures.untouched told).same)) moved

pub returns-clause-sound : goal.returns-clause-sound
returns-clause-sound g c = λ told digest bytes from_is to_is fits here is sound.
    let first = sound_untouched (c.sync.ensures.untouched told) sound in
    let still : g.F.FileTree.seen c.sync.new.self draft_path ≡ Some bytes = ap (λ t. t draft_path) ((c.sync.ensures.untouched told).same) ∙ here in
    let durable = subst (λ o. NoneOr c.args.draft.now o (g.F.FileTree.may_leave c.sync.new.self)) (ap (g.F.FileTree.seen c.args.files.now) from_is ∙ here) (c.in_ok-sync.ensures.durable told) in
    let second = sound_move c.args.draft.now c.args.stored.now digest bytes from_is to_is fits is still durable (g.met.F.FileTree.only_now _) first.sound (c.rename.ensures.files told) (c.rename.ensures.crash told) (c.rename.ensures.time told) in
    sound_on first (sound_on second (sound_untouched (c.sync_path.ensures.untouched told) second.sound))

pub returns-in_err-sync-clause-crash : goal.returns-in_err-sync-clause-crash
returns-in_err-sync-clause-crash g c = λ told. after_untouched (MayMove c.args.draft.now c.args.stored.now) (move_none c.args.draft.now c.args.stored.now) (c.sync.ensures.untouched told)

pub returns-in_err-rename-clause-crash : goal.returns-in_err-rename-clause-crash
returns-in_err-rename-clause-crash g c = λ told. untouched_then (MayMove c.args.draft.now c.args.stored.now) (move_none c.args.draft.now c.args.stored.now) (c.sync.ensures.untouched told) (after_call (MayMove c.args.draft.now c.args.stored.now) (move_none c.args.draft.now c.args.stored.now) (g.met.F.FileTree.only_now _) (c.rename.ensures.crash told) (c.rename.ensures.time told))

pub returns-clause-crash : goal.returns-clause-crash
returns-clause-crash g c = λ told.
    let moved = untouched_then (MayMove c.args.draft.now c.args.stored.now) (move_none c.args.draft.now c.args.stored.now) (c.sync.ensures.untouched told) (after_call (MayMove c.args.draft.now c.args.stored.now) (move_none c.args.draft.now c.args.stored.now) (g.met.F.FileTree.only_now _) (c.rename.ensures.crash told) (c.rename.ensures.time told)) in
    then_untouched (MayMove c.args.draft.now c.args.stored.now) moved (c.sync_path.ensures.untouched told)
