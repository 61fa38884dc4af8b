use Rattle.std.proofs.Common.{◌≡◌, ℕ, List, Option, None, Some, sym, ap, ◌∙◌, subst}
use Rattle.mr_folder.proofs.Names.{LeavesAfter, MayLink, option_map, sha256, stored_path}
use Rattle.mr_folder.proofs.Moments.{sound_untouched, sound_on, after_untouched, untouched_then}
use Rattle.mr_folder.proofs.ShowLemmas.{link_none, no_step, then_step}
use Rattle.mr_folder.proofs.store.adopt.Goals as goal

none_some : (bytes : List ℕ) → ◌≡◌ {A = Option (List ℕ)} None (Some bytes) → ⊥
none_some bytes e = cc

some_is : (a b : List ℕ) → ◌≡◌ {A = Option (List ℕ)} (Some a) (Some b) → a ≡ b
some_is a b e = cc

pub returns-in_err-bytes-clause-sound : goal.returns-in_err-bytes-clause-sound
returns-in_err-bytes-clause-sound g c = λ told sound. sound_untouched (c.read.ensures.untouched told) sound

pub returns-in_default-clause-sound : goal.returns-in_default-clause-sound
returns-in_default-clause-sound g c = λ told sound. sound_untouched (c.read.ensures.untouched told) sound

pub returns-in_err-link_mail-clause-sound : goal.returns-in_err-link_mail-clause-sound
returns-in_err-link_mail-clause-sound g c = λ told sound.
    let untouched = c.read.ensures.untouched told in
    let first = sound_untouched untouched sound in
    let was : g.F.FileTree.seen c.args.files.now c.args.path.now ≡ Some c.in-Some.bytes.items = sym (c.in_ok-bytes.ensures.read told) ∙ ap (option_map (λ v. v.items)) c.in-Some.is in
    let here : g.F.FileTree.seen c.read.new.self c.args.path.now ≡ Some c.in-Some.bytes.items = ap (λ t. t c.args.path.now) untouched.same ∙ was in
    let is : sha256 c.in-Some.bytes.items ≡ c.digest-digest.result = sym (c.digest-digest.ensures ∙ ap sha256 c.as_slice.ensures.value) in
    sound_on first (c.link_mail.ensures.sound told c.in-Some.bytes.items here is first.sound)

pub returns-clause-kept : goal.returns-clause-kept
returns-clause-kept g c = λ told sound.
    let untouched = c.read.ensures.untouched told in
    let first = sound_untouched untouched sound in
    let was : g.F.FileTree.seen c.args.files.now c.args.path.now ≡ Some c.in-Some.bytes.items = sym (c.in_ok-bytes.ensures.read told) ∙ ap (option_map (λ v. v.items)) c.in-Some.is in
    let here : g.F.FileTree.seen c.read.new.self c.args.path.now ≡ Some c.in-Some.bytes.items = ap (λ t. t c.args.path.now) untouched.same ∙ was in
    let is : sha256 c.in-Some.bytes.items ≡ c.digest-digest.result = sym (c.digest-digest.ensures ∙ ap sha256 c.as_slice.ensures.value) in
    c.in_ok-link_mail.ensures.kept told c.in-Some.bytes.items here is first.sound

pub returns-clause-sound : goal.returns-clause-sound
returns-clause-sound g c = λ told sound.
    let untouched = c.read.ensures.untouched told in
    let first = sound_untouched untouched sound in
    let was : g.F.FileTree.seen c.args.files.now c.args.path.now ≡ Some c.in-Some.bytes.items = sym (c.in_ok-bytes.ensures.read told) ∙ ap (option_map (λ v. v.items)) c.in-Some.is in
    let here : g.F.FileTree.seen c.read.new.self c.args.path.now ≡ Some c.in-Some.bytes.items = ap (λ t. t c.args.path.now) untouched.same ∙ was in
    let is : sha256 c.in-Some.bytes.items ≡ c.digest-digest.result = sym (c.digest-digest.ensures ∙ ap sha256 c.as_slice.ensures.value) in
    sound_on first (c.link_mail.ensures.sound told c.in-Some.bytes.items here is first.sound)

pub returns-in_err-bytes-clause-untouched : goal.returns-in_err-bytes-clause-untouched
returns-in_err-bytes-clause-untouched g c = λ told none. c.read.ensures.untouched told

pub returns-in_err-bytes-clause-only : goal.returns-in_err-bytes-clause-only
returns-in_err-bytes-clause-only g c = λ told bytes here. no_step (MayLink c.args.path.now (stored_path (sha256 bytes))) (link_none c.args.path.now (stored_path (sha256 bytes))) (c.read.ensures.untouched told)

pub returns-in_err-bytes-clause-crash : goal.returns-in_err-bytes-clause-crash
returns-in_err-bytes-clause-crash g c = λ told bytes here. after_untouched (MayLink c.args.path.now (stored_path (sha256 bytes))) (link_none c.args.path.now (stored_path (sha256 bytes))) (c.read.ensures.untouched told)

pub returns-in_default-clause-untouched : goal.returns-in_default-clause-untouched
returns-in_default-clause-untouched g c = λ told none. c.read.ensures.untouched told

pub returns-in_default-clause-only : goal.returns-in_default-clause-only
returns-in_default-clause-only g c = λ told bytes here. no_step (MayLink c.args.path.now (stored_path (sha256 bytes))) (link_none c.args.path.now (stored_path (sha256 bytes))) (c.read.ensures.untouched told)

pub returns-in_default-clause-crash : goal.returns-in_default-clause-crash
returns-in_default-clause-crash g c = λ told bytes here. after_untouched (MayLink c.args.path.now (stored_path (sha256 bytes))) (link_none c.args.path.now (stored_path (sha256 bytes))) (c.read.ensures.untouched told)

pub returns-in_err-link_mail-clause-untouched : goal.returns-in_err-link_mail-clause-untouched
returns-in_err-link_mail-clause-untouched g c = λ told none.
    let was : g.F.FileTree.seen c.args.files.now c.args.path.now ≡ Some c.in-Some.bytes.items = sym (c.in_ok-bytes.ensures.read told) ∙ ap (option_map (λ v. v.items)) c.in-Some.is in
    absurd (none_some c.in-Some.bytes.items (sym none ∙ was))

pub returns-in_err-link_mail-clause-only : goal.returns-in_err-link_mail-clause-only
returns-in_err-link_mail-clause-only g c = λ told bytes here.
    let was : g.F.FileTree.seen c.args.files.now c.args.path.now ≡ Some c.in-Some.bytes.items = sym (c.in_ok-bytes.ensures.read told) ∙ ap (option_map (λ v. v.items)) c.in-Some.is in
    let is : c.digest-digest.result ≡ sha256 bytes = c.digest-digest.ensures ∙ (ap sha256 c.as_slice.ensures.value ∙ ap sha256 (some_is c.in-Some.bytes.items bytes (sym was ∙ here))) in
    then_step (MayLink c.args.path.now (stored_path (sha256 bytes))) (c.read.ensures.untouched told) (subst (λ d. MayLink c.args.path.now (stored_path d) (g.F.FileTree.seen c.read.new.self) (g.F.FileTree.seen c.link_mail.new.files)) is (c.link_mail.ensures.only told))

pub returns-in_err-link_mail-clause-crash : goal.returns-in_err-link_mail-clause-crash
returns-in_err-link_mail-clause-crash g c = λ told bytes here.
    let was : g.F.FileTree.seen c.args.files.now c.args.path.now ≡ Some c.in-Some.bytes.items = sym (c.in_ok-bytes.ensures.read told) ∙ ap (option_map (λ v. v.items)) c.in-Some.is in
    let is : c.digest-digest.result ≡ sha256 bytes = c.digest-digest.ensures ∙ (ap sha256 c.as_slice.ensures.value ∙ ap sha256 (some_is c.in-Some.bytes.items bytes (sym was ∙ here))) in
    untouched_then (MayLink c.args.path.now (stored_path (sha256 bytes))) (link_none c.args.path.now (stored_path (sha256 bytes))) (c.read.ensures.untouched told) (subst (λ d. LeavesAfter (MayLink c.args.path.now (stored_path d)) g.F.FileTree.may_leave g.F.FileTree.moment g.F.FileTree.left_since c.read.new.self c.link_mail.new.files) is (c.link_mail.ensures.crash told))

pub returns-clause-untouched : goal.returns-clause-untouched
returns-clause-untouched g c = λ told none.
    let was : g.F.FileTree.seen c.args.files.now c.args.path.now ≡ Some c.in-Some.bytes.items = sym (c.in_ok-bytes.ensures.read told) ∙ ap (option_map (λ v. v.items)) c.in-Some.is in
    absurd (none_some c.in-Some.bytes.items (sym none ∙ was))

pub returns-clause-only : goal.returns-clause-only
returns-clause-only g c = λ told bytes here.
    let was : g.F.FileTree.seen c.args.files.now c.args.path.now ≡ Some c.in-Some.bytes.items = sym (c.in_ok-bytes.ensures.read told) ∙ ap (option_map (λ v. v.items)) c.in-Some.is in
    let is : c.digest-digest.result ≡ sha256 bytes = c.digest-digest.ensures ∙ (ap sha256 c.as_slice.ensures.value ∙ ap sha256 (some_is c.in-Some.bytes.items bytes (sym was ∙ here))) in
    then_step (MayLink c.args.path.now (stored_path (sha256 bytes))) (c.read.ensures.untouched told) (subst (λ d. MayLink c.args.path.now (stored_path d) (g.F.FileTree.seen c.read.new.self) (g.F.FileTree.seen c.link_mail.new.files)) is (c.link_mail.ensures.only told))

pub returns-clause-crash : goal.returns-clause-crash
returns-clause-crash g c = λ told bytes here.
    let was : g.F.FileTree.seen c.args.files.now c.args.path.now ≡ Some c.in-Some.bytes.items = sym (c.in_ok-bytes.ensures.read told) ∙ ap (option_map (λ v. v.items)) c.in-Some.is in
    let is : c.digest-digest.result ≡ sha256 bytes = c.digest-digest.ensures ∙ (ap sha256 c.as_slice.ensures.value ∙ ap sha256 (some_is c.in-Some.bytes.items bytes (sym was ∙ here))) in
    untouched_then (MayLink c.args.path.now (stored_path (sha256 bytes))) (link_none c.args.path.now (stored_path (sha256 bytes))) (c.read.ensures.untouched told) (subst (λ d. LeavesAfter (MayLink c.args.path.now (stored_path d)) g.F.FileTree.may_leave g.F.FileTree.moment g.F.FileTree.left_since c.read.new.self c.link_mail.new.files) is (c.link_mail.ensures.crash told))
