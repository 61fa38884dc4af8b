-- acts on the files of the Maildir keep a store sound
use Rattle.std.proofs.Common.{◌≡◌, ◌≢◌, ◌↔◌, inl, ℕ, Bool, false, List, Option, None, Some, IfSome, Result, Ok, Err, IfOk, IsTrue, is_some, refl, sym, ap, ◌∙◌, subst}
use Rattle.mr_folder.proofs.Names.{Follows, HasRoom, IsSound, IsStore, IsUntouched, MayGo, MayLink, MayMove, Passes, StaysSound, Tree, false≢true, first_part}
use Rattle.mr_folder.proofs.Names.{own_folder, sha256, stored_path}
use Rattle.mr_folder.proofs.Moments.{widened, joined, sound_over}

-- the store's files are the program's own
own_stored : (digest : List ℕ) → first_part (stored_path digest) ≡ own_folder
own_stored digest = refl

pub not_stored : (path : List ℕ) → first_part path ≢ own_folder → (digest : List ℕ) → stored_path digest ≢ path
not_stored path apart digest same = apart (ap first_part (sym same) ∙ own_stored digest)

-- the store's files stay as they are
abbrev pub KeepsStored : (Tree → Tree → Type 0) → Type 0
KeepsStored Step = (old new : Tree) → Step old new → (digest : List ℕ) → new (stored_path digest) ≡ old (stored_path digest)

pub move_keeps : (from to : List ℕ) → first_part from ≢ own_folder → first_part to ≢ own_folder → KeepsStored (MayMove from to)
move_keeps from to from_apart to_apart = λ old new move digest. move.only (stored_path digest) (not_stored from from_apart digest) (not_stored to to_apart digest)

pub link_keeps : (from to : List ℕ) → first_part to ≢ own_folder → KeepsStored (MayLink from to)
link_keeps from to apart = λ old new link digest. link.only (stored_path digest) (not_stored to apart digest)

pub go_keeps : (path : List ℕ) → first_part path ≢ own_folder → KeepsStored (MayGo path)
go_keeps path apart = λ old new go digest. go.only (stored_path digest) (not_stored path apart digest)

IsStore-same : (old new : Tree) → ((digest : List ℕ) → new (stored_path digest) ≡ old (stored_path digest)) → IsStore old → IsStore new
IsStore-same old new same store = λ digest fits.
    let P : Option (List ℕ) → Type 0 = λ o. IfSome o (λ bytes. sha256 bytes ≡ digest) in
    subst P (sym (same digest)) (store digest fits)

-- nothing moved, was linked, or went
pub move_none : (from to : List ℕ) (t : Tree) → MayMove from to t t
move_none from to t = record { source = inl refl; target = inl refl; only = λ other a b. refl }

pub link_none : (from to : List ℕ) (t : Tree) → MayLink from to t t
link_none from to t = record { target = inl refl; only = λ other a. refl }

pub go_none : (path : List ℕ) (t : Tree) → MayGo path t t
go_none path t = record { place = inl refl; only = λ other a. refl }

-- nothing is there where a test says so
pub none_from : (o : Option (List ℕ)) → is_some o ≡ false → o ≡ None
none_from None is = refl
none_from (Some bytes) is = absurd (false≢true (sym is))

-- where there is room for a file at another path, that is another path
pub apart_of_room : (from to : List ℕ) (tree : Tree) → HasRoom from to tree → from ≢ to
apart_of_room from to tree room same = false≢true (sym (ap is_some room.free) ∙ (ap (λ p. is_some (tree p)) (sym same) ∙ room.there))

-- whether there is room, told by two tests
pub room_from : {E : Type 0} (r : Result Bool E) (from to : List ℕ) (old mid : Tree) → IfOk r (λ is. is ≡ is_some (mid from)) → mid ≡ old → old to ≡ None → IfOk r (λ room. IsTrue room ↔ HasRoom from to old)
room_from (Ok b) from to old mid is same free = (
  λ yes. record { there = sym (ap (λ t. is_some (t from)) same) ∙ (sym is ∙ yes); free = free },
  λ room. is ∙ (ap (λ t. is_some (t from)) same ∙ room.there),
)
room_from (Err e) from to old mid is same free = tt

module _ {F : Type 0} {seen : F → Tree} {may_leave : F → Tree → Type 0} {moment : F → ℕ} {left_since : F → ℕ → Tree → Type 0} where
  -- a step that keeps the store's files keeps it sound
  pub sound_apart : {old new : F} (Step : Tree → Tree → Type 0) → KeepsStored Step → ((c : Tree) → left_since old (moment old) c → may_leave old c) → IsSound seen may_leave old → Step (seen old) (seen new) → Follows Step (may_leave old) (may_leave new) → Passes (moment old) (moment new) (left_since old) (left_since new) (may_leave new) → StaysSound seen may_leave moment left_since old new
  sound_apart {old} {new} Step keeps only sound step crash time =
      sound_over only sound (IsStore-same (seen old) (seen new) (keeps (seen old) (seen new) step) sound.now)
      (λ c left. let d = crash c left in IsStore-same d.0 c (keeps d.0 c d.2) (sound.crash d.0 d.1)) time

  -- a call that writes nothing, and then nothing or a step
  pub no_step : {old new : F} (Step : Tree → Tree → Type 0) → ((t : Tree) → Step t t) → IsUntouched seen may_leave moment left_since old new → Step (seen old) (seen new)
  no_step {old} {new} Step none untouched = subst (Step (seen old)) (sym untouched.same) (none (seen old))

  pub no_crash : {old new : F} (Step : Tree → Tree → Type 0) → ((t : Tree) → Step t t) → IsUntouched seen may_leave moment left_since old new → Follows Step (may_leave old) (may_leave new)
  no_crash Step none untouched = λ c left. (c, untouched.no_more c left, none c)

  pub then_step : {old mid new : F} (Step : Tree → Tree → Type 0) → IsUntouched seen may_leave moment left_since old mid → Step (seen mid) (seen new) → Step (seen old) (seen new)
  then_step {old} {mid} {new} Step untouched step = subst (λ t. Step t (seen new)) untouched.same step

  pub then_crash : {old mid new : F} (Step : Tree → Tree → Type 0) → IsUntouched seen may_leave moment left_since old mid → Follows Step (may_leave mid) (may_leave new) → Follows Step (may_leave old) (may_leave new)
  then_crash Step untouched crash = λ c left. let d = crash c left in (d.0, untouched.no_more d.0 d.1, d.2)

  -- two calls that write nothing
  pub untouched_on : {old mid new : F} → IsUntouched seen may_leave moment left_since old mid → IsUntouched seen may_leave moment left_since mid new → IsUntouched seen may_leave moment left_since old new
  untouched_on {old} first second = record {
    same = second.same ∙ first.same;
    no_more = λ c left. first.no_more c (second.no_more c left);
    moments = joined first.moments (widened (may_leave old) second.moments first.no_more);
  }

  pub step_then : {old mid new : F} (Step : Tree → Tree → Type 0) → Step (seen old) (seen mid) → IsUntouched seen may_leave moment left_since mid new → Step (seen old) (seen new)
  step_then {old} {mid} {new} Step step untouched = subst (Step (seen old)) (sym untouched.same) step
