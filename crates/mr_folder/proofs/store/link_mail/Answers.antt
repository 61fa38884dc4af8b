use Rattle.std.proofs.Common.{◌≡◌, ◌<◌, ℕ, true, sym, ap, ◌∙◌, arith}
use Rattle.mr_folder.proofs.Names.{MayLink, is_some, slice_index, stored_path}
use Rattle.mr_folder.proofs.Moments.{sound_still, after_still}
use Rattle.mr_folder.proofs.ShowLemmas.{link_none}
use Rattle.mr_folder.proofs.StoreSteps.{link_at, link_after}
use Rattle.mr_folder.proofs.TreeLemmas.{HasMail-there}
use Rattle.mr_folder.proofs.store.link_mail.Goals as goal

pub returns-in_err-stored-clause-sound : goal.returns-in_err-stored-clause-sound
returns-in_err-stored-clause-sound g c = λ told bytes here is sound. sound_still _ (g.met.F.FileTree.only_now _) sound

pub returns-in_err-link_synced-clause-only : goal.returns-in_err-link_synced-clause-only
returns-in_err-link_synced-clause-only g c = λ told. link_at _ _ _ c.in_ok-stored.ensures (c.link_synced.ensures.only told)

pub returns-in_err-link_synced-clause-sound : goal.returns-in_err-link_synced-clause-sound
returns-in_err-link_synced-clause-sound g c = λ told bytes here is sound.
    let fits : (i : ℕ) → slice_index c.args.digest.now i < 256 = λ i. (let f = c.fits-digest i in omega arith) in
    c.link_synced.ensures.sound told c.args.digest.now bytes c.in_ok-stored.ensures fits here is sound

pub returns-clause-kept : goal.returns-clause-kept
returns-clause-kept g c = λ told bytes here is sound.
    let fits : (i : ℕ) → slice_index c.args.digest.now i < 256 = λ i. (let f = c.fits-digest i in omega arith) in
    let after = c.link_synced.ensures.sound told c.args.digest.now bytes c.in_ok-stored.ensures fits here is sound in
    let linked = c.in_ok-link_synced.ensures.linked told (ap is_some here) in
    let there : is_some (g.F.FileTree.seen c.link_synced.new.files (stored_path c.args.digest.now)) ≡ true = ap (λ p. is_some (g.F.FileTree.seen c.link_synced.new.files p)) (sym c.in_ok-stored.ensures) ∙ linked in
    record {
      now = HasMail-there c.args.digest.now (g.F.FileTree.seen c.link_synced.new.files) fits there after.sound.now;
      crash = λ t left.
          let in_crash : is_some (t (stored_path c.args.digest.now)) ≡ true = ap (λ p. is_some (t p)) (sym c.in_ok-stored.ensures) ∙ (c.in_ok-link_synced.ensures.durable told t left ∙ linked) in
          HasMail-there c.args.digest.now t fits in_crash (after.sound.crash t left);
    }

pub returns-clause-only : goal.returns-clause-only
returns-clause-only g c = λ told. link_at _ _ _ c.in_ok-stored.ensures (c.link_synced.ensures.only told)

pub returns-clause-sound : goal.returns-clause-sound
returns-clause-sound g c = λ told bytes here is sound.
    let fits : (i : ℕ) → slice_index c.args.digest.now i < 256 = λ i. (let f = c.fits-digest i in omega arith) in
    c.link_synced.ensures.sound told c.args.digest.now bytes c.in_ok-stored.ensures fits here is sound

pub returns-in_err-stored-clause-only : goal.returns-in_err-stored-clause-only
returns-in_err-stored-clause-only g c = λ told. link_none c.args.path.now (stored_path c.args.digest.now) (g.F.FileTree.seen c.args.files.now)

pub returns-in_err-stored-clause-crash : goal.returns-in_err-stored-clause-crash
returns-in_err-stored-clause-crash g c = λ told. after_still (MayLink c.args.path.now (stored_path c.args.digest.now)) (link_none c.args.path.now (stored_path c.args.digest.now)) _ (g.met.F.FileTree.only_now _)

pub returns-in_err-link_synced-clause-crash : goal.returns-in_err-link_synced-clause-crash
returns-in_err-link_synced-clause-crash g c = λ told. link_after _ _ _ c.in_ok-stored.ensures (c.link_synced.ensures.crash told)

pub returns-clause-crash : goal.returns-clause-crash
returns-clause-crash g c = λ told. link_after _ _ _ c.in_ok-stored.ensures (c.link_synced.ensures.crash told)
