use Rattle.std.proofs.Common.{◌≡◌, ◌<◌, ℕ, ap, sym, ◌∙◌, arith}
use Rattle.std.proofs.lemmas.Bool.{false≢true}
use Rattle.mr_folder.proofs.Names.{bytes_eq-Decides, draft_path, sha256, slice_index}
use Rattle.mr_folder.proofs.KeepLemmas.{keeps_behind}
use Rattle.mr_folder.proofs.Moments.{sound_on, sound_still, sound_untouched}
use Rattle.mr_folder.proofs.store.end.Goals as goal

pub returns-then-not-has_digest-clause-sound : goal.returns-then-not-has_digest-clause-sound
returns-then-not-has_digest-clause-sound g c = λ told come has sound. sound_still _ (g.met.F.FileTree.only_now _) sound

pub returns-in_err-is_there-clause-sound : goal.returns-in_err-is_there-clause-sound
returns-in_err-is_there-clause-sound g c = λ told come has sound. sound_untouched (c.keep_mail.ensures.untouched told) sound

pub returns-then-is_there-clause-sound : goal.returns-then-is_there-clause-sound
returns-then-is_there-clause-sound g c = λ told come has sound. sound_untouched (c.keep_mail.ensures.untouched told) sound

pub returns-in_err-place-clause-keeps : goal.returns-in_err-place-clause-keeps
returns-in_err-place-clause-keeps g c = λ told.
    let fits : (i : ℕ) → slice_index c.args.digest.now i < 256 = λ i. (let f = c.fits-digest i in omega arith) in
    keeps_behind c.args.digest.now fits (λ mail. false≢true (sym c.if-is_there.false ∙ (c.in_ok-is_there.ensures.has told).1 mail)) (c.keep_mail.ensures.untouched told) (c.place.ensures.only told) (c.place.ensures.crash told)

pub returns-in_err-place-clause-sound : goal.returns-in_err-place-clause-sound
returns-in_err-place-clause-sound g c = λ told come has sound.
    let is : sha256 come ≡ c.args.digest.now = (bytes_eq-Decides (sha256 come) c.args.digest.now).0 (sym (c.has_digest.ensures come has.held) ∙ c.if-not-has_digest.false) in
    let looked = sound_untouched (c.keep_mail.ensures.untouched told) sound in
    sound_on looked (c.place.ensures.sound told come (ap (λ t. t draft_path) (c.keep_mail.ensures.untouched told).same ∙ has.written) is looked.sound)

pub returns-clause-kept : goal.returns-clause-kept
returns-clause-kept g c = λ told come has sound yes.
    let is : sha256 come ≡ c.args.digest.now = (bytes_eq-Decides (sha256 come) c.args.digest.now).0 (sym (c.has_digest.ensures come has.held) ∙ c.if-not-has_digest.false) in
    let looked = sound_untouched (c.keep_mail.ensures.untouched told) sound in
    c.in_ok-place.ensures.kept told come (ap (λ t. t draft_path) (c.keep_mail.ensures.untouched told).same ∙ has.written) is looked.sound

pub returns-clause-keeps : goal.returns-clause-keeps
returns-clause-keeps g c = λ told.
    let fits : (i : ℕ) → slice_index c.args.digest.now i < 256 = λ i. (let f = c.fits-digest i in omega arith) in
    keeps_behind c.args.digest.now fits (λ mail. false≢true (sym c.if-is_there.false ∙ (c.in_ok-is_there.ensures.has told).1 mail)) (c.keep_mail.ensures.untouched told) (c.place.ensures.only told) (c.place.ensures.crash told)

pub returns-clause-sound : goal.returns-clause-sound
returns-clause-sound g c = λ told come has sound.
    let is : sha256 come ≡ c.args.digest.now = (bytes_eq-Decides (sha256 come) c.args.digest.now).0 (sym (c.has_digest.ensures come has.held) ∙ c.if-not-has_digest.false) in
    let looked = sound_untouched (c.keep_mail.ensures.untouched told) sound in
    sound_on looked (c.place.ensures.sound told come (ap (λ t. t draft_path) (c.keep_mail.ensures.untouched told).same ∙ has.written) is looked.sound)
