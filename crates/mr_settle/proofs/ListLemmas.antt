-- Places of lists.
use Rattle.std.proofs.Common.{◌≡◌, ◌≢◌, ◌<◌, refl, sym, ap, subst, ◌∙◌, ◌+◌, arith, ℕ, zero, suc, List, [], ◌∷◌, ◌++◌, length, take, drop, Option, Some}
use Rattle.mr_settle.proofs.Names.{All, All-cons, All-head, All-nil, All-tail, AllZip, get_or, none-some, same_Some, slice_get, slice_set}

-- an option has one value
pub some_one : {A : Type 0} (x y : A) (o : Option A) → o ≡ Some x → o ≡ Some y → x ≡ y
some_one x y o h k = same_Some x y (sym h ∙ k)

module _ {A : Type 0} where
  -- what holds at each place holds of all
  pub all_places : (P : A → Type 0) (xs : List A) → ((i : ℕ) (x : A) → slice_get xs i ≡ Some x → P x) → All P xs
  all_places P [] h = All-nil P
  all_places P (x ∷ xs) h = All-cons P x xs (h 0 x refl) (all_places P xs (λ i y e. h (suc i) y e))

  pub get_there : (xs : List A) (i : ℕ) → i < length xs → (x : A) × (slice_get xs i ≡ Some x)
  get_there [] i low = absurd (omega (arith, low))
  get_there (y ∷ ys) zero low = (y, refl)
  get_there (y ∷ ys) (suc i) low = get_there ys i (omega (arith, low))

  pub get_set : (xs : List A) (i : ℕ) (x : A) → i < length xs → slice_get (slice_set xs i x) i ≡ Some x
  get_set [] i x low = absurd (omega (arith, low))
  get_set (y ∷ ys) zero x low = refl
  get_set (y ∷ ys) (suc i) x low = get_set ys i x (omega (arith, low))

  pub get_other : (xs : List A) (i j : ℕ) (x : A) → j ≢ i → slice_get (slice_set xs i x) j ≡ slice_get xs j
  get_other [] i j x ne = refl
  get_other (y ∷ ys) zero zero x ne = absurd (ne refl)
  get_other (y ∷ ys) zero (suc j) x ne = refl
  get_other (y ∷ ys) (suc i) zero x ne = refl
  get_other (y ∷ ys) (suc i) (suc j) x ne = get_other ys i j x (λ e. ne (ap suc e))

  -- a list from a place on begins with what is there
  pub split_at : (xs : List A) (i : ℕ) (x : A) → slice_get xs i ≡ Some x → (left : List A) × (xs ≡ take i xs ++ x ∷ left) × (take (suc i) xs ≡ take i xs ++ x ∷ [])
  split_at [] i x e = absurd (none-some x e)
  split_at (y ∷ ys) zero x e = let is : y ≡ x = some_one y x (Some y) refl e in (ys, ap (λ z. z ∷ ys) is, ap (λ z. z ∷ []) is)
  split_at (y ∷ ys) (suc i) x e = grind (arith, split_at ys i x e)

  pub get_all : (P : A → Type 0) (xs : List A) (i : ℕ) (x : A) → All P xs → slice_get xs i ≡ Some x → P x
  get_all P [] i x all e = absurd (none-some x e)
  get_all P (y ∷ ys) zero x all e = subst P (some_one y x (Some y) refl e) (All-head P y ys all)
  get_all P (y ∷ ys) (suc i) x all e = get_all P ys i x (All-tail P y ys all) e

pub first_of : {X : Type 0} (xs : List X) (n : ℕ) (x : X) (left : List X) → drop n xs ≡ x ∷ left → slice_get xs n ≡ Some x
first_of [] zero x left e = absurd (cc (e))
first_of [] (suc n) x left e = absurd (cc (e))
first_of (y ∷ ys) zero x left e = ap (λ zs. slice_get zs 0) e
first_of (y ∷ ys) (suc n) x left e = first_of ys n x left e

-- ---- lists so far

module _ {A B : Type 0} (R : A → B → Type 0) (y : B) where
  zip_more_from : (xs : List A) (i : ℕ) (x : A) (ys : List B) → i < length xs → x ≡ get_or xs i x → AllZip R (take i xs) ys → R x y → AllZip R (take (suc i) xs) (ys ++ y ∷ [])
  zip_more_from [] i x ys low is all h = absurd (omega (arith, low))
  zip_more_from (z ∷ zs) zero x [] low is all h = (subst (λ (w : A). R w y) is h, tt)
  zip_more_from (z ∷ zs) zero x (v ∷ ys) low is all h = absurd all
  zip_more_from (z ∷ zs) (suc i) x [] low is all h = absurd all
  zip_more_from (z ∷ zs) (suc i) x (v ∷ ys) low is all h = (all.0, zip_more_from zs i x ys (omega (arith, low)) is all.1 h)

  pub zip_take_more : (xs : List A) (i : ℕ) (x : A) (ys : List B) → i < length xs → x ≡ get_or xs i x → AllZip R (take i xs) ys → R x y → AllZip R (take (i + 1) xs) (ys ++ y ∷ [])
  zip_take_more xs i x ys low is all h = grind (arith, zip_more_from)
