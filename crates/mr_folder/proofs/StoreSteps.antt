-- calls that keep a store sound
use Rattle.std.proofs.Common.{◌≡◌, ◌↔◌, inl, inr, ⊎_elim, ℕ, Bool, true, List, Option, Some, subst, sym, ap, ◌∙◌, refl}
use Rattle.mr_folder.proofs.Names.{Follows, IsBytes, IsSound, LeavesAfter, MayLink, MayMove, NoneOr, OnlyAt, OnlyStored, Passes, SameOr, StaysSound, Tree}
use Rattle.mr_folder.proofs.Names.{bytes_eq, bytes_eq-Decides, draft_path, sha256, stored_path}
use Rattle.mr_folder.proofs.Moments.{sound_over, after_still, after_call, after_on, after_wider}
use Rattle.mr_folder.proofs.TreeLemmas.{draft_apart, IsStore-draft, IsStore-moved, IsStore-linked}

module _ {F : Type 0} {seen : F → Tree} {may_leave : F → Tree → Type 0} {moment : F → ℕ} {left_since : F → ℕ → Tree → Type 0} where
  -- the draft is written
  pub sound_draft : {old new : F} (path : List ℕ) → path ≡ draft_path → ((c : Tree) → left_since old (moment old) c → may_leave old c) → IsSound seen may_leave old → OnlyAt path (seen old) (seen new) → Follows (OnlyAt path) (may_leave old) (may_leave new) → Passes (moment old) (moment new) (left_since old) (left_since new) (may_leave new) → StaysSound seen may_leave moment left_since old new
  sound_draft {old} {new} path at only_now sound only crash time =
      let only_draft = subst (λ p. OnlyAt p (seen old) (seen new)) at only in
      let crash_draft = subst (λ p. Follows (OnlyAt p) (may_leave old) (may_leave new)) at crash in
      sound_over only_now sound (IsStore-draft (seen old) (seen new) only_draft sound.now)
      (λ c left. let d = crash_draft c left in IsStore-draft d.0 c d.2 (sound.crash d.0 d.1)) time

  -- the draft moves to its place
  pub sound_move : {old new : F} (from to digest bytes : List ℕ) → from ≡ draft_path → to ≡ stored_path digest → IsBytes digest → sha256 bytes ≡ digest → seen old draft_path ≡ Some bytes → NoneOr from (Some bytes) (may_leave old) → ((c : Tree) → left_since old (moment old) c → may_leave old c) → IsSound seen may_leave old → MayMove from to (seen old) (seen new) → Follows (MayMove from to) (may_leave old) (may_leave new) → Passes (moment old) (moment new) (left_since old) (left_since new) (may_leave new) → StaysSound seen may_leave moment left_since old new
  sound_move {old} {new} from to digest bytes from_is to_is fits is here durable only_now sound files crash time =
      let durable_draft = subst (λ p. NoneOr p (Some bytes) (may_leave old)) from_is durable in
      let moves = subst (λ p. MayMove p (stored_path digest) (seen old) (seen new)) from_is (subst (λ q. MayMove from q (seen old) (seen new)) to_is files) in
      let may = subst (λ p. Follows (MayMove p (stored_path digest)) (may_leave old) (may_leave new)) from_is (subst (λ q. Follows (MayMove from q) (may_leave old) (may_leave new)) to_is crash) in
      sound_over only_now sound (IsStore-moved digest bytes (seen old) (seen new) fits is (inr here) moves sound.now)
      (λ c left. let d = may c left in IsStore-moved digest bytes d.0 c fits is (durable_draft d.0 d.1) d.2 (sound.crash d.0 d.1)) time

  -- a file gets a second path in the store
  pub sound_link : {old new : F} (from to digest bytes : List ℕ) → to ≡ stored_path digest → IsBytes digest → sha256 bytes ≡ digest → seen old from ≡ Some bytes → NoneOr from (Some bytes) (may_leave old) → ((c : Tree) → left_since old (moment old) c → may_leave old c) → IsSound seen may_leave old → MayLink from to (seen old) (seen new) → Follows (MayLink from to) (may_leave old) (may_leave new) → Passes (moment old) (moment new) (left_since old) (left_since new) (may_leave new) → StaysSound seen may_leave moment left_since old new
  sound_link {old} {new} from to digest bytes to_is fits is here durable only_now sound files crash time =
      let links = subst (λ q. MayLink from q (seen old) (seen new)) to_is files in
      let may = subst (λ q. Follows (MayLink from q) (may_leave old) (may_leave new)) to_is crash in
      sound_over only_now sound (IsStore-linked digest bytes from (seen old) (seen new) fits is (inr here) links sound.now)
      (λ c left. let d = may c left in IsStore-linked digest bytes from d.0 c fits is (durable d.0 d.1) d.2 (sound.crash d.0 d.1)) time

module _ {F : Type 0} {may_leave : F → Tree → Type 0} {moment : F → ℕ} {left_since : F → ℕ → Tree → Type 0} where
  -- what a crash leaves where only the draft changes: with no call, over one, and over two
  pub draft_still : (old : F) → ((c : Tree) → left_since old (moment old) c → may_leave old c) → LeavesAfter (OnlyAt draft_path) may_leave moment left_since old old
  draft_still old only_now = after_still (OnlyAt draft_path) (λ t other apart. refl) old only_now

  pub draft_after : {old new : F} (path : List ℕ) → path ≡ draft_path → ((c : Tree) → left_since old (moment old) c → may_leave old c) → Follows (OnlyAt path) (may_leave old) (may_leave new) → Passes (moment old) (moment new) (left_since old) (left_since new) (may_leave new) → LeavesAfter (OnlyAt draft_path) may_leave moment left_since old new
  draft_after {old} {new} path at only_now crash time = after_call (OnlyAt draft_path) (λ t other apart. refl) only_now (subst (λ p. Follows (OnlyAt p) (may_leave old) (may_leave new)) at crash) time

  pub draft_on : {old mid new : F} → LeavesAfter (OnlyAt draft_path) may_leave moment left_since old mid → LeavesAfter (OnlyAt draft_path) may_leave moment left_since mid new → LeavesAfter (OnlyAt draft_path) may_leave moment left_since old new
  draft_on first second = after_on (OnlyAt draft_path) (λ a b c ab bc other apart. bc other apart ∙ ab other apart) first second

  -- and where the draft, and then that and one place change
  pub stored_still : (digest : List ℕ) (old : F) → ((c : Tree) → left_since old (moment old) c → may_leave old c) → LeavesAfter (OnlyStored digest) may_leave moment left_since old old
  stored_still digest old only_now = after_still (OnlyStored digest) (λ t path apart other. refl) old only_now

  pub stored_draft : (digest : List ℕ) {old new : F} → LeavesAfter (OnlyAt draft_path) may_leave moment left_since old new → LeavesAfter (OnlyStored digest) may_leave moment left_since old new
  stored_draft digest after = after_wider (OnlyAt draft_path) (OnlyStored digest) (λ a b only path apart other. only path other) after

  pub stored_move : (from to digest : List ℕ) {old new : F} → from ≡ draft_path → to ≡ stored_path digest → LeavesAfter (MayMove from to) may_leave moment left_since old new → LeavesAfter (OnlyStored digest) may_leave moment left_since old new
  stored_move from to digest from_is to_is after = after_wider (MayMove from to) (OnlyStored digest) (λ a b move path apart other. move.only path (λ e. other (e ∙ from_is)) (λ e. apart (e ∙ to_is))) after

  pub stored_on : (digest : List ℕ) {old mid new : F} → LeavesAfter (OnlyStored digest) may_leave moment left_since old mid → LeavesAfter (OnlyStored digest) may_leave moment left_since mid new → LeavesAfter (OnlyStored digest) may_leave moment left_since old new
  stored_on digest first second = after_on (OnlyStored digest) (λ a b c ab bc path apart other. bc path apart other ∙ ab path apart other) first second

  -- and where a file gets a place of the store as a second path
  pub link_after : (from to place : List ℕ) {old new : F} → to ≡ place → LeavesAfter (MayLink from to) may_leave moment left_since old new → LeavesAfter (MayLink from place) may_leave moment left_since old new
  link_after from to place {old} {new} same after = subst (λ p. LeavesAfter (MayLink from p) may_leave moment left_since old new) same after

-- the place of a digest, where the draft moved to it, and where only the draft changed before
pub moved_place : (from to digest bytes : List ℕ) (old new : Tree) → from ≡ draft_path → to ≡ stored_path digest → old draft_path ≡ Some bytes → MayMove from to old new → SameOr (stored_path digest) bytes old new
moved_place from to digest bytes old new from_is to_is here move =
    subst (λ p. SameOr p bytes old new) to_is (⊎_elim (λ same. inl same) (λ moved. inr (moved ∙ (ap old from_is ∙ here))) move.target)

pub draft_place : (digest bytes : List ℕ) (old mid new : Tree) → OnlyAt draft_path old mid → SameOr (stored_path digest) bytes mid new → SameOr (stored_path digest) bytes old new
draft_place digest bytes old mid new only place = ⊎_elim (λ same. inl (same ∙ only (stored_path digest) (λ e. draft_apart digest (sym e)))) (λ is. inr is) place

-- a link, by the names of its paths
pub link_at : {old new : Tree} (from to place : List ℕ) → to ≡ place → MayLink from to old new → MayLink from place old new
link_at {old} {new} from to place same link = subst (λ p. MayLink from p old new) same link

-- the draft's path, by its name
pub at_path : (tree : Tree) (path place : List ℕ) (bytes : Option (List ℕ)) → path ≡ place → tree path ≡ bytes → tree place ≡ bytes
at_path tree path place bytes same here = subst (λ p. tree p ≡ bytes) same here

pub only_at : {old new : Tree} (path place : List ℕ) → path ≡ place → OnlyAt path old new → OnlyAt place old new
only_at {old} {new} path place same only = subst (λ p. OnlyAt p old new) same only

-- no file moved
pub unmoved : (from to : List ℕ) (old new : Tree) → new ≡ old → MayMove from to old new
unmoved from to old new same = subst (λ t. MayMove from to old t) (sym same) record { source = inl refl; target = inl refl; only = λ other a b. refl }

-- a test of bytes tells whether they are one
pub tells : (b : Bool) (x y : List ℕ) → b ≡ bytes_eq x y → (b ≡ true) ↔ (x ≡ y)
tells b x y is = (λ yes. (bytes_eq-Decides x y).0 (sym is ∙ yes), λ same. is ∙ (bytes_eq-Decides x y).1 same)
