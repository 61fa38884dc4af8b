use Rattle.std.proofs.Common.{◌<◌, inl, ℕ, refl, sym, ap, ◌∙◌, subst, arith}
use Rattle.mr_folder.proofs.Names.{HasSame, is_some, slice_index}
use Rattle.mr_folder.proofs.Moments.{sound_still}
use Rattle.mr_folder.proofs.StoreSteps.{stored_still, stored_move, moved_place}
use Rattle.mr_folder.proofs.TreeLemmas.{HasMail-there}
use Rattle.mr_folder.proofs.store.place.Goals as goal

pub returns-in_err-draft-clause-sound : goal.returns-in_err-draft-clause-sound
returns-in_err-draft-clause-sound g c = λ told bytes here is sound. sound_still _ (g.met.F.FileTree.only_now _) sound

pub returns-in_err-stored-clause-sound : goal.returns-in_err-stored-clause-sound
returns-in_err-stored-clause-sound g c = λ told bytes here is sound. sound_still _ (g.met.F.FileTree.only_now _) sound

pub returns-in_err-move_synced-clause-only : goal.returns-in_err-move_synced-clause-only
returns-in_err-move_synced-clause-only g c = λ told path a b. (c.move_synced.ensures.only told).only path (λ e. b (e ∙ c.in_ok-draft.ensures)) (λ e. a (e ∙ c.in_ok-stored.ensures))

pub returns-in_err-move_synced-clause-sound : goal.returns-in_err-move_synced-clause-sound
returns-in_err-move_synced-clause-sound g c = λ told bytes here is sound.
    let fits : (i : ℕ) → slice_index c.args.digest.now i < 256 = λ i. (let f = c.fits-digest i in omega arith) in
    c.move_synced.ensures.sound told c.args.digest.now bytes c.in_ok-draft.ensures c.in_ok-stored.ensures fits here is sound

pub returns-clause-placed : goal.returns-clause-placed
returns-clause-placed g c = λ told.
    ap (g.F.FileTree.seen c.move_synced.new.files) (sym c.in_ok-stored.ensures) ∙ (c.in_ok-move_synced.ensures.moved told ∙ ap (g.F.FileTree.seen c.args.files.now) c.in_ok-draft.ensures)

pub returns-clause-kept : goal.returns-clause-kept
returns-clause-kept g c = λ told bytes here is sound.
    let fits : (i : ℕ) → slice_index c.args.digest.now i < 256 = λ i. (let f = c.fits-digest i in omega arith) in
    let after = c.move_synced.ensures.sound told c.args.digest.now bytes c.in_ok-draft.ensures c.in_ok-stored.ensures fits here is sound in
    let moved = ap (g.F.FileTree.seen c.move_synced.new.files) (sym c.in_ok-stored.ensures) ∙ (c.in_ok-move_synced.ensures.moved told ∙ (ap (g.F.FileTree.seen c.args.files.now) c.in_ok-draft.ensures ∙ here)) in
    let durable = subst (λ p. HasSame p (g.F.FileTree.seen c.move_synced.new.files) (g.F.FileTree.may_leave c.move_synced.new.files)) c.in_ok-stored.ensures (c.in_ok-move_synced.ensures.durable told) in
    record {
      now = record { bytes = bytes; stored = moved; digest_is = is };
      crash = λ t left. HasMail-there c.args.digest.now t fits (durable t left ∙ ap is_some moved) (after.sound.crash t left);
    }

pub returns-clause-only : goal.returns-clause-only
returns-clause-only g c = λ told path a b. (c.move_synced.ensures.only told).only path (λ e. b (e ∙ c.in_ok-draft.ensures)) (λ e. a (e ∙ c.in_ok-stored.ensures))

pub returns-clause-sound : goal.returns-clause-sound
returns-clause-sound g c = λ told bytes here is sound.
    let fits : (i : ℕ) → slice_index c.args.digest.now i < 256 = λ i. (let f = c.fits-digest i in omega arith) in
    c.move_synced.ensures.sound told c.args.digest.now bytes c.in_ok-draft.ensures c.in_ok-stored.ensures fits here is sound

pub returns-in_err-draft-clause-crash : goal.returns-in_err-draft-clause-crash
returns-in_err-draft-clause-crash g c = λ told. stored_still c.args.digest.now _ (g.met.F.FileTree.only_now _)

pub returns-in_err-stored-clause-crash : goal.returns-in_err-stored-clause-crash
returns-in_err-stored-clause-crash g c = λ told. stored_still c.args.digest.now _ (g.met.F.FileTree.only_now _)

pub returns-in_err-move_synced-clause-crash : goal.returns-in_err-move_synced-clause-crash
returns-in_err-move_synced-clause-crash g c = λ told. stored_move _ _ c.args.digest.now c.in_ok-draft.ensures c.in_ok-stored.ensures (c.move_synced.ensures.crash told)

pub returns-clause-crash : goal.returns-clause-crash
returns-clause-crash g c = λ told. stored_move _ _ c.args.digest.now c.in_ok-draft.ensures c.in_ok-stored.ensures (c.move_synced.ensures.crash told)

pub returns-in_err-draft-clause-place : goal.returns-in_err-draft-clause-place
returns-in_err-draft-clause-place g c = λ told bytes here. inl refl

pub returns-in_err-stored-clause-place : goal.returns-in_err-stored-clause-place
returns-in_err-stored-clause-place g c = λ told bytes here. inl refl

pub returns-in_err-move_synced-clause-place : goal.returns-in_err-move_synced-clause-place
returns-in_err-move_synced-clause-place g c = λ told bytes here. moved_place _ _ c.args.digest.now bytes _ _ c.in_ok-draft.ensures c.in_ok-stored.ensures here (c.move_synced.ensures.only told)

pub returns-clause-place : goal.returns-clause-place
returns-clause-place g c = λ told bytes here. moved_place _ _ c.args.digest.now bytes _ _ c.in_ok-draft.ensures c.in_ok-stored.ensures here (c.move_synced.ensures.only told)
