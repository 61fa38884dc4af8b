-- mails that stay in a store
use Rattle.std.proofs.Common.{◌≡◌, ◌≢◌, ◌⊎◌, inl, inr, ⊎_elim, ℕ, zero, suc, ◌<◌, false, true, List, [], ◌∷◌, ◌++◌, Contains, Option, None, Some, refl, sym, ap, ◌∙◌, subst, arith}
use Rattle.mr_folder.proofs.Names.{HasMail, HasSame, IsBytes, IsKept, IsUntouched, KeepsAt, KeepsMail, KeepsMails, LeavesAfter, MaySweep}
use Rattle.mr_folder.proofs.Names.{NoneOr, OnlyAt, OnlyStored, SweepsOnly, Tree, draft_path, is_some, slice_index, stored_path}
use Rattle.std.specs.Int.{to_be_bytes, w32}
use Rattle.sha2.specs.Sha256.{digest_bytes, sha256}
use Rattle.mr_folder.proofs.Moments.{after_untouched, joined, started, widened}
use Rattle.mr_folder.proofs.TreeLemmas.{draft_apart, own_place}

-- ---- digests are bytes

IsBytes-cons : (x : ℕ) (xs : List ℕ) → x < 256 → IsBytes xs → (i : ℕ) → slice_index (x ∷ xs) i < 256
IsBytes-cons x xs first rest zero = first
IsBytes-cons x xs first rest (suc i) = rest i

IsBytes-append : (xs ys : List ℕ) → IsBytes xs → IsBytes ys → IsBytes (xs ++ ys)
IsBytes-append [] ys first second = second
IsBytes-append (x ∷ xs) ys first second = IsBytes-cons x (xs ++ ys) (first 0) (IsBytes-append xs ys (λ i. first (suc i)) second)

IsBytes-word : (n i : ℕ) → slice_index (to_be_bytes w32 n) i < 256
IsBytes-word n zero = omega arith
IsBytes-word n (suc zero) = omega arith
IsBytes-word n (suc (suc zero)) = omega arith
IsBytes-word n (suc (suc (suc zero))) = omega arith
IsBytes-word n (suc (suc (suc (suc i)))) = omega arith

IsBytes-digest_bytes : (h : List ℕ) (n : ℕ) → IsBytes (digest_bytes h n)
unfolding digest_bytes
IsBytes-digest_bytes h zero = λ i. omega arith
IsBytes-digest_bytes h (suc n) = IsBytes-append (digest_bytes h n) (to_be_bytes w32 (slice_index h n)) (IsBytes-digest_bytes h n) (IsBytes-word (slice_index h n))

pub IsBytes-sha256 : (bytes : List ℕ) → IsBytes (sha256 bytes)
unfolding sha256
IsBytes-sha256 bytes = IsBytes-digest_bytes _ 8

IsBytes-mail : (digest : List ℕ) (tree : Tree) → HasMail digest tree → IsBytes digest
IsBytes-mail digest tree mail = subst IsBytes mail.digest_is (IsBytes-sha256 mail.bytes)

-- ---- one mail, from tree to tree

-- a tree has the mail where another one has it whose file of it is the same
pub same_mail : (digest : List ℕ) (old new : Tree) → new (stored_path digest) ≡ old (stored_path digest) → HasMail digest old → HasMail digest new
same_mail digest old new same mail = record { bytes = mail.bytes; stored = same ∙ mail.stored; digest_is = mail.digest_is }

-- two mails, of which only one is there, have places of their own
other_place : (digest other : List ℕ) (tree : Tree) → IsBytes digest → (HasMail digest tree → ⊥) → HasMail other tree → stored_path other ≢ stored_path digest
other_place digest other tree fits lacks mail = λ same. lacks (subst (λ d. HasMail d tree) (own_place other digest (IsBytes-mail other tree mail) fits same) mail)

module _ {F : Type 0} {seen : F → Tree} {may_leave : F → Tree → Type 0} {moment : F → ℕ} {left_since : F → ℕ → Tree → Type 0} where
  -- a mail stays over what leaves its file as it is
  keeps_over : (digest : List ℕ) (step : Tree → Tree → Type 0) {old new : F} → ((before now : Tree) → HasMail digest before → step before now → now (stored_path digest) ≡ before (stored_path digest))
      → (HasMail digest (seen old) → seen new (stored_path digest) ≡ seen old (stored_path digest)) → LeavesAfter step may_leave moment left_since old new → KeepsMail seen may_leave moment left_since digest old new
  keeps_over digest step {old} {new} leaves same after = record {
    same = same;
    kept = λ kept. record {
      now = same_mail digest (seen old) (seen new) (same kept.now) kept.now;
      crash = λ c left. let d = after.crash c left in same_mail digest d.0 c (leaves d.0 c (kept.crash d.0 d.1) d.2) (kept.crash d.0 d.1);
    };
    moments = λ kept. widened (HasMail digest) after.moments (λ c from. same_mail digest from.0 c (leaves from.0 c (kept.crash from.0 from.1) from.2) (kept.crash from.0 from.1));
  }

  -- over a call that writes nothing
  pub keeps_untouched : {old new : F} → IsUntouched seen may_leave moment left_since old new → KeepsMails seen may_leave moment left_since old new
  keeps_untouched {old} {new} untouched = λ digest.
      keeps_over digest (λ before now. now (stored_path digest) ≡ before (stored_path digest)) (λ before now mail same. same) (λ mail. ap (λ t. t (stored_path digest)) untouched.same)
      (after_untouched (λ before now. now (stored_path digest) ≡ before (stored_path digest)) (λ t. refl) untouched)

  -- over one that writes the draft
  pub keeps_draft : {old new : F} → OnlyAt draft_path (seen old) (seen new) → LeavesAfter (OnlyAt draft_path) may_leave moment left_since old new → KeepsMails seen may_leave moment left_since old new
  keeps_draft {old} {new} only after = λ digest.
      keeps_over digest (OnlyAt draft_path) (λ before now mail step. step (stored_path digest) (λ e. draft_apart digest (sym e))) (λ mail. only (stored_path digest) (λ e. draft_apart digest (sym e))) after

  -- over one that puts a mail there which wasn't
  pub keeps_stored : (digest : List ℕ) {old new : F} → IsBytes digest → (HasMail digest (seen old) → ⊥) → OnlyStored digest (seen old) (seen new) → LeavesAfter (OnlyStored digest) may_leave moment left_since old new → KeepsMails seen may_leave moment left_since old new
  keeps_stored digest {old} {new} fits lacks only after = λ other. record {
    same = λ mail. only (stored_path other) (other_place digest other (seen old) fits lacks mail) (λ e. draft_apart other (sym e));
    kept = λ kept. (whole other kept).kept kept;
    moments = λ kept. (whole other kept).moments kept;
  }
    where
      whole : (other : List ℕ) → IsKept seen may_leave other old → KeepsMail seen may_leave moment left_since other old new
      whole other kept =
          let apart = other_place digest other (seen old) fits lacks kept.now in
          keeps_over other (OnlyStored digest) (λ before now mail step. step (stored_path other) apart (λ e. draft_apart other (sym e))) (λ mail. only (stored_path other) apart (λ e. draft_apart other (sym e))) after

  -- over two calls
  pub keeps_on : {old mid new : F} → KeepsMails seen may_leave moment left_since old mid → KeepsMails seen may_leave moment left_since mid new → KeepsMails seen may_leave moment left_since old new
  keeps_on {old} {mid} {new} first second = λ digest. record {
    same = λ mail. (second digest).same (same_mail digest (seen old) (seen mid) ((first digest).same mail) mail) ∙ (first digest).same mail;
    kept = λ kept. (second digest).kept ((first digest).kept kept);
    moments = λ kept. joined ((first digest).moments kept) ((second digest).moments ((first digest).kept kept));
  }

  -- over none
  pub keeps_still : (old : F) → ((c : Tree) → left_since old (moment old) c → may_leave old c) → KeepsMails seen may_leave moment left_since old old
  keeps_still old only = λ digest. record {
    same = λ mail. refl;
    kept = λ kept. kept;
    moments = λ kept. started (λ c left. kept.crash c (only c left));
  }

  -- ---- files that a sweep leaves

  -- what is held stays as it is, whatever its file's bytes are
  pub swept_keeps : (held : List (List ℕ)) (digest : List ℕ) {old new : F} → IsBytes digest → Contains held digest → SweepsOnly seen may_leave moment left_since held old new → KeepsAt seen may_leave moment left_since (stored_path digest) old new
  swept_keeps held digest {old} {new} fits is swept = record {
    same = stays (seen old) (seen new) swept.files;
    after = record {
      crash = λ c left. more c (swept.crash c left);
      moments = widened (λ c. (d : Tree) × may_leave old d × (c (stored_path digest) ≡ d (stored_path digest))) swept.moments more;
    };
  }
    where
      stays : (before now : Tree) → MaySweep held before now → now (stored_path digest) ≡ before (stored_path digest)
      stays before now step =
          ⊎_elim (λ same. same) (λ gone. absurd (gone.0.unheld (subst (λ d. Contains held d) (own_place digest gone.0.digest fits gone.0.is.bytes gone.0.path_is) is))) (step (stored_path digest))

      more : (c : Tree) → ((d : Tree) × may_leave old d × MaySweep held d c) → (d : Tree) × may_leave old d × (c (stored_path digest) ≡ d (stored_path digest))
      more c from = (from.0, from.1, stays from.0 c from.2)

  -- ---- what is there, and is synced, is kept

  -- what is read of a mail, and then synced, and so its path
  pub kept_synced : (digest path : List ℕ) {old read synced new : F} → path ≡ stored_path digest → IsUntouched seen may_leave moment left_since old read → IsUntouched seen may_leave moment left_since read synced → IsUntouched seen may_leave moment left_since synced new
      → HasMail digest (seen old) → NoneOr path (seen read path) (may_leave synced) → HasSame path (seen synced) (may_leave new) → IsKept seen may_leave digest new
  kept_synced digest path {old} {read} {synced} {new} at first second third mail bytes place = record {
    now = same_mail digest (seen old) (seen new) (ap (λ t. t (stored_path digest)) (third.same ∙ (second.same ∙ first.same))) mail;
    crash = λ c left. same_mail digest (seen read) c (is c left) (same_mail digest (seen old) (seen read) (ap (λ t. t (stored_path digest)) first.same) mail);
  }
    where
      there : (old new : Option (List ℕ)) (b : List ℕ) → old ≡ Some b → (new ≡ None) ⊎ (new ≡ old) → is_some new ≡ is_some old → new ≡ old
      there old new b some (inr same) is = same
      there old new b some (inl none) is = absurd (no (sym (ap is_some none) ∙ (is ∙ ap is_some some)))
        where
          no : false ≡ true → ⊥
          no e = cc

      is : (c : Tree) → may_leave new c → c (stored_path digest) ≡ seen read (stored_path digest)
      is c left =
          let bytes_at = subst (λ p. NoneOr p (seen read p) (may_leave synced)) at bytes in
          let place_at = subst (λ p. HasSame p (seen synced) (may_leave new)) at place in
          there (seen read (stored_path digest)) (c (stored_path digest)) mail.bytes (ap (λ t. t (stored_path digest)) first.same ∙ mail.stored) (bytes_at c (third.no_more c left))
          (place_at c left ∙ ap (λ t. is_some (t (stored_path digest))) second.same)

  -- ---- a mail gets to its place behind a look, by which it isn't there

  pub stored_untouched : (digest : List ℕ) {old new : F} → IsUntouched seen may_leave moment left_since old new → LeavesAfter (OnlyStored digest) may_leave moment left_since old new
  stored_untouched digest untouched = after_untouched (OnlyStored digest) (λ t path apart other. refl) untouched

  -- mails stay, since the one that gets to its place wasn't there
  pub keeps_behind : (digest : List ℕ) {old mid new : F} → IsBytes digest → (HasMail digest (seen old) → ⊥) → IsUntouched seen may_leave moment left_since old mid → OnlyStored digest (seen mid) (seen new) → LeavesAfter (OnlyStored digest) may_leave moment left_since mid new → KeepsMails seen may_leave moment left_since old new
  keeps_behind digest {old} {mid} {new} fits lacks untouched only after =
      keeps_on (keeps_untouched untouched) (keeps_stored digest fits (λ mail. lacks (same_mail digest (seen mid) (seen old) (sym (ap (λ t. t (stored_path digest)) untouched.same)) mail)) only after)
