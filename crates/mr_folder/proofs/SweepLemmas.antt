-- what sweeps leave
use Rattle.std.proofs.Common.{◌≡◌, ◌≢◌, ◌⊎◌, inl, inr, ⊎_elim, ℕ, ◌+◌, ◌<◌, true, false, List, length, get_or, Contains, Option, None, Some, IfSome, refl, sym, ap, ◌∙◌, subst, arith}
use Rattle.mr_folder.proofs.Names.{Follows, IsSound, IsStore, IsUnheld, IsUntouched, MayGo, MaySweep, Passes, StaysSound, SweepsOnly, SweptFrom, Tree}
use Rattle.mr_folder.proofs.Names.{bytes_decides, cases_lt, get_or_default, is_some, nat_eq, pointwise, sha256, stored_path}
use Rattle.mr_folder.proofs.Moments.{widened, joined, started, passed}

pub MaySweep-refl : (held : List (List ℕ)) (t : Tree) → MaySweep held t t
MaySweep-refl held t = λ path. inl refl

pub MaySweep-trans : (held : List (List ℕ)) (a b c : Tree) → MaySweep held a b → MaySweep held b c → MaySweep held a c
MaySweep-trans held a b c first second = λ path.
    ⊎_elim (λ same. ⊎_elim (λ before. inl (same ∙ before)) (λ gone. inr (gone.0, same ∙ gone.1)) (first path)) (λ gone. inr gone) (second path)

-- a file that isn't held goes
pub MaySweep-go : (held : List (List ℕ)) (path : List ℕ) (old new : Tree) → IsUnheld held path → MayGo path old new → MaySweep held old new
MaySweep-go held path old new unheld go = λ other.
    let P : List ℕ → Type 0 = λ p. (new p ≡ old p) ⊎ (IsUnheld held p × (new p ≡ None)) in
    elim (pointwise nat_eq other path) as (λ t. pointwise nat_eq other path ≡ t → P other) [
      | true ↦ λ is.
          let same : other ≡ path = (bytes_decides other path).0 is in
          subst P (sym same) (⊎_elim (λ still. inl still) (λ none. inr (unheld, none)) go.place)
      | false ↦ λ isnt. inl (go.only other (differ other path isnt))
    ] refl
  where
    differ : (a b : List ℕ) → pointwise nat_eq a b ≡ false → a ≢ b
    differ a b isnt same = let is = (bytes_decides a b).1 same in cc

-- where nothing is, a sweep puts nothing
pub none_stays : (held : List (List ℕ)) (path : List ℕ) (old new : Tree) → MaySweep held old new → old path ≡ None → new path ≡ None
none_stays held path old new swept none = ⊎_elim (λ same. same ∙ none) (λ gone. gone.1) (swept path)

-- a file that was there has gone, so nothing is there
pub all_swept : (held : List (List ℕ)) (path : List ℕ) (old mid new : Tree) → (is_some (old path) ≡ true → new path ≡ None) → mid ≡ old → MaySweep held mid new → new path ≡ None
all_swept held path old mid new gone same swept = go (old path) refl
  where
    go : (o : Option (List ℕ)) → old path ≡ o → new path ≡ None
    go None is = none_stays held path mid new swept (ap (λ t. t path) same ∙ is)
    go (Some bytes) is = gone (ap is_some is)

-- one more digest whose file has gone, unless it is held
pub one_gone : (held digests : List (List ℕ)) (i : ℕ) (x d : List ℕ) (old new : Tree) → x ≡ get_or digests i d → i < length digests → ((k : ℕ) (digest : List ℕ) → k < i → get_or digests k digest ≡ digest → ¬ (Contains held digest) → old (stored_path digest) ≡ None) → (¬ (Contains held x) → new (stored_path x) ≡ None) → MaySweep held old new → (k : ℕ) (digest : List ℕ) → k < i + 1 → get_or digests k digest ≡ digest → ¬ (Contains held digest) → new (stored_path digest) ≡ None
one_gone held digests i x d old new is within before here swept k digest lt at unheld =
    elim (cases_lt k i) [
      | inl less ↦ none_stays held (stored_path digest) old new swept (before k digest less at unheld)
      | inr other ↦
          let same : k ≡ i = omega arith in
          let e : digest ≡ x = sym at ∙ (ap (λ n. get_or digests n digest) same ∙ (get_or_default digests i digest d within ∙ sym is)) in
          rw e (here (subst (λ y. ¬ (Contains held y)) e unheld))
    ]

pub IsStore-swept : (held : List (List ℕ)) (old new : Tree) → MaySweep held old new → IsStore old → IsStore new
IsStore-swept held old new swept store = λ digest fits.
    let P : Option (List ℕ) → Type 0 = λ o. IfSome o (λ bytes. sha256 bytes ≡ digest) in
    ⊎_elim (λ same. subst P (sym same) (store digest fits)) (λ gone. subst P (sym gone.1) tt) (swept (stored_path digest))

module _ {F : Type 0} {seen : F → Tree} {may_leave : F → Tree → Type 0} {moment : F → ℕ} {left_since : F → ℕ → Tree → Type 0} where
  -- with no call
  pub sweeps_still : (held : List (List ℕ)) (old : F) → ((c : Tree) → left_since old (moment old) c → may_leave old c) → SweepsOnly seen may_leave moment left_since held old old
  sweeps_still held old only = record {
    files = MaySweep-refl held (seen old);
    crash = λ c left. (c, left, MaySweep-refl held c);
    moments = started (λ c left. (c, only c left, MaySweep-refl held c));
  }

  -- over a call that writes nothing
  pub sweeps_untouched : (held : List (List ℕ)) {old new : F} → IsUntouched seen may_leave moment left_since old new → SweepsOnly seen may_leave moment left_since held old new
  sweeps_untouched held {old} {new} untouched = record {
    files = λ path. inl (ap (λ t. t path) untouched.same);
    crash = λ c left. (c, untouched.no_more c left, MaySweep-refl held c);
    moments = widened (SweptFrom held (may_leave old)) untouched.moments (λ c left. (c, left, MaySweep-refl held c));
  }

  -- over one that takes away a file that isn't held
  pub sweeps_go : (held : List (List ℕ)) (path : List ℕ) {old new : F} → IsUnheld held path → ((c : Tree) → left_since old (moment old) c → may_leave old c) → MayGo path (seen old) (seen new) → Follows (MayGo path) (may_leave old) (may_leave new) → Passes (moment old) (moment new) (left_since old) (left_since new) (may_leave new) → SweepsOnly seen may_leave moment left_since held old new
  sweeps_go held path {old} {new} unheld only files crash time = record {
    files = MaySweep-go held path (seen old) (seen new) unheld files;
    crash = after;
    moments = passed (SweptFrom held (may_leave old)) time (λ c left. (c, only c left, MaySweep-refl held c)) after;
  }
    where
      after : (c : Tree) → may_leave new c → SweptFrom held (may_leave old) c
      after c left = let d = crash c left in (d.0, d.1, MaySweep-go held path d.0 c unheld d.2)

  -- over two
  pub sweeps_on : (held : List (List ℕ)) {old mid new : F} → SweepsOnly seen may_leave moment left_since held old mid → SweepsOnly seen may_leave moment left_since held mid new → SweepsOnly seen may_leave moment left_since held old new
  sweeps_on held {old} {mid} {new} first second = record {
    files = MaySweep-trans held (seen old) (seen mid) (seen new) first.files second.files;
    crash = λ c left. before c (second.crash c left);
    moments = joined first.moments (widened (SweptFrom held (may_leave old)) second.moments before);
  }
    where
      before : (c : Tree) → SweptFrom held (may_leave mid) c → SweptFrom held (may_leave old) c
      before c from = let d = first.crash from.0 from.1 in (d.0, d.1, MaySweep-trans held d.0 from.0 c d.2 from.2)

  -- the store stays one
  pub sweeps_sound : (held : List (List ℕ)) {old new : F} → SweepsOnly seen may_leave moment left_since held old new → IsSound seen may_leave old → StaysSound seen may_leave moment left_since old new
  sweeps_sound held {old} {new} sweeps sound = record {
    sound = record {
      now = IsStore-swept held (seen old) (seen new) sweeps.files sound.now;
      crash = λ c left. swept c (sweeps.crash c left);
    };
    moments = widened IsStore sweeps.moments swept;
  }
    where
      swept : (c : Tree) → SweptFrom held (may_leave old) c → IsStore c
      swept c from = IsStore-swept held from.0 c from.2 (sound.crash from.0 from.1)
