-- How far logs have come, place by place.
use Rattle.std.proofs.Common.{◌≡◌, refl, sym, ap, subst, ◌∙◌, ℕ, zero, suc, List, [], ◌∷◌, length, map, Some}
use Rattle.mr_settle.proofs.Names.{AllZip, AreAtStart, IsUpToDate, Progress, State, done_of, map-set, none-some, slice_get, slice_set}
use Rattle.mr_settle.proofs.ListLemmas.{some_one}

module _ {A B : Type 0} (f : A → B) where
  pub map_there : (xs : List A) (i : ℕ) (y : B) → slice_get (map f xs) i ≡ Some y → (x : A) × (slice_get xs i ≡ Some x) × (f x ≡ y)
  map_there [] i y e = absurd (none-some y e)
  map_there (x ∷ xs) zero y e = (x, refl, some_one (f x) y (Some (f x)) refl e)
  map_there (x ∷ xs) (suc i) y e = map_there xs i y e

module _ {A B : Type 0} (R : A → B → Type 0) where
  pub zip_get : (xs : List A) (ys : List B) (i : ℕ) (x : A) (y : B) → AllZip R xs ys → slice_get xs i ≡ Some x → slice_get ys i ≡ Some y → R x y
  zip_get [] ys i x y all is_x is_y = absurd (none-some x is_x)
  zip_get (a ∷ xs) [] i x y all is_x is_y = absurd all
  zip_get (a ∷ xs) (b ∷ ys) zero x y all is_x is_y = subst (λ (z : A). R z y) (some_one a x (Some a) refl is_x) (subst (R a) (some_one b y (Some b) refl is_y) all.0)
  zip_get (a ∷ xs) (b ∷ ys) (suc i) x y all is_x is_y = zip_get xs ys i x y all.1 is_x is_y

  pub zip_set : (xs : List A) (ys : List B) (i : ℕ) (x : A) (y : B) → AllZip R xs ys → slice_get xs i ≡ Some x → R x y → AllZip R xs (slice_set ys i y)
  zip_set [] ys i x y all is_x h = absurd (none-some x is_x)
  zip_set (a ∷ xs) [] i x y all is_x h = absurd all
  zip_set (a ∷ xs) (b ∷ ys) zero x y all is_x h = (subst (λ (z : A). R z y) (sym (some_one a x (Some a) refl is_x)) h, all.1)
  zip_set (a ∷ xs) (b ∷ ys) (suc i) x y all is_x h = (all.0, zip_set xs ys i x y all.1 is_x h)

module _ {K : Type 0} where
  -- ---- the beginning

  pub start_up_to_date : (ends : List (State K)) (progress : List Progress) → AreAtStart ends progress → AllZip IsUpToDate ends progress
  start_up_to_date [] [] h = h
  start_up_to_date [] (p ∷ ps) h = absurd h
  start_up_to_date (end ∷ ends) [] h = absurd h
  start_up_to_date (end ∷ ends) (p ∷ ps) h = (h.0.1, start_up_to_date ends ps h.1)

  pub start_long : (ends : List (State K)) (progress : List Progress) → AreAtStart ends progress → length (done_of progress) ≡ length ends
  start_long [] [] h = refl
  start_long [] (p ∷ ps) h = absurd h
  start_long (end ∷ ends) [] h = absurd h
  start_long (end ∷ ends) (p ∷ ps) h = ap suc (start_long ends ps h.1)

  pub start_zero : (ends : List (State K)) (progress : List Progress) → AreAtStart ends progress → (i n : ℕ) → slice_get (done_of progress) i ≡ Some n → n ≡ 0
  start_zero ends [] h i n e = absurd (none-some n e)
  start_zero [] (p ∷ ps) h i n e = absurd h
  start_zero (end ∷ ends) (p ∷ ps) h zero n e = sym (some_one p.done n (Some p.done) refl e) ∙ h.0.0
  start_zero (end ∷ ends) (p ∷ ps) h (suc i) n e = start_zero ends ps h.1 i n e

-- ---- one goes on

pub done_set : (progress : List Progress) (i n : ℕ) (next : Progress) → next.done ≡ n → done_of (slice_set progress i next) ≡ slice_set (done_of progress) i n
done_set progress i n next is = map-set (λ (p : Progress). p.done) progress i next ∙ ap (slice_set (done_of progress) i) is
