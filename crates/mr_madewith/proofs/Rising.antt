-- what rising names say, and which edits keep them rising
use Rattle.std.proofs.Common.{◌≡◌, ◌<◌, ◌+◌, ℕ, zero, suc, Bool, true, false, not, cond, refl, ap, ◌∙◌, arith, List, [], ◌∷◌, length, map, get_or, add-one, Option, Some, None, ◌⊎◌, inl, inr}
use Rattle.std.specs.declared.cmp.Ordering.{Ordering}
use Rattle.std.specs.declared.cmp.Ordering.TheVariants.{Less, Equal, Greater}
use Rattle.std.specs.Ordering.{is_lt, is_eq, ordering_reverse}
use Rattle.std.specs.List.{AllByRecursion, filter}
use Rattle.std.specs.List.Sorted.{IsStrictlySortedBy, IsSortedBy}
use Rattle.std.proofs.lemmas.Cmp.{tied_itself}
use Rattle.mr_version.specs.Name.{Name, name_cmp, name_eq}
use Rattle.mr_version.specs.Order.{exact_names, names_total}
use Rattle.mr_madewith.specs.Keyed.{AreRising, named, without, inserted, is_before}

-- a name is itself
pub name_eq_self : (v : Name) → name_eq v v ≡ true
name_eq_self v = ap is_eq (tied_itself names_total v)

-- two names that are one are the same
pub same_names : (a b : Name) → name_eq a b ≡ true → a ≡ b
same_names a b h = exact_names a b (is_equal (name_cmp a b) h)
  where
    is_equal : (o : Ordering) → is_eq o ≡ true → o ≡ Equal
    is_equal Less h = cc
    is_equal Equal h = refl
    is_equal Greater h = cc

-- what a name stands before is not before it, nor the same
pub not_after : (a b : Name) → name_cmp a b ≡ Less → is_lt (name_cmp b a) ≡ false
not_after a b h = ap is_lt (names_total.antisymm b a ∙ ap ordering_reverse h)

pub greater_is_after : (a b : Name) → name_cmp a b ≡ Greater → name_cmp b a ≡ Less
greater_is_after a b h = names_total.antisymm b a ∙ ap ordering_reverse h

-- two names in either order
pub name_eq-swap : (a b : Name) → name_eq a b ≡ name_eq b a
name_eq-swap a b = ap is_eq (names_total.antisymm a b) ∙ reversed (name_cmp b a)
  where
    reversed : (o : Ordering) → is_eq (ordering_reverse o) ≡ is_eq o
    reversed Less = refl
    reversed Equal = refl
    reversed Greater = refl

pub sides_of : (b : Bool) → (b ≡ true) ⊎ (b ≡ false)
sides_of true = inl refl
sides_of false = inr refl

pub unnamed : {X : Type 0} (b : Bool) (x : X) (rest : Option X) → cond b (Some x) rest ≡ None → b ≡ false
unnamed true x rest h = cc
unnamed false x rest h = refl

module _ {X : Type 0} (name : X → Name) where
  pub head_before : (x : X) (xs : List X) → AreRising name (x ∷ xs) → AllByRecursion (λ v. name_cmp (name x) v ≡ Less) (map name xs)
  unfolding IsStrictlySortedBy
  head_before x xs h = h.0

  pub tail_rises : (x : X) (xs : List X) → AreRising name (x ∷ xs) → AreRising name xs
  unfolding IsStrictlySortedBy
  tail_rises x xs h = h.1

  pub rises_from : (x : X) (xs : List X) → AllByRecursion (λ v. name_cmp (name x) v ≡ Less) (map name xs) → AreRising name xs → AreRising name (x ∷ xs)
  unfolding IsStrictlySortedBy
  rises_from x xs h k = (h, k)

  -- what holds of each name holds of the name at a place
  pub at_place : (P : Name → Type 0) (xs : List X) (i : ℕ) (d : X) → i < length xs → AllByRecursion P (map name xs) → P (name (get_or xs i d))
  at_place P [] i d l h = absurd (omega arith)
  at_place P (x ∷ xs) zero d l h = h.0
  at_place P (x ∷ xs) (suc i) d l h = at_place P xs i d (omega arith) h.1

  -- rising names are sorted, as a binary search asks
  pub sorted_by_name : (xs : List X) → AreRising name xs → IsSortedBy (λ a b. is_lt (name_cmp (name a) (name b))) xs
  sorted_by_name [] h k d low high = absurd (omega arith)
  sorted_by_name (x ∷ xs) h zero d low high = not_after (name x) (name (get_or xs zero d)) (at_place (λ v. name_cmp (name x) v ≡ Less) xs zero d (omega arith) (head_before x xs h))
  sorted_by_name (x ∷ xs) h (suc k) d low high =
      let rest : is_lt (name_cmp (name (get_or xs (k + 1) d)) (name (get_or xs k d))) ≡ false = sorted_by_name xs (tail_rises x xs h) k d (omega arith) (omega arith) in
      rw add-one (rw add-one at rest)

  -- each name stays before those that an edit keeps
  pub all_filtered : (P : Name → Type 0) (p : X → Bool) (xs : List X) → AllByRecursion P (map name xs) → AllByRecursion P (map name (filter p xs))
  all_filtered P p [] h = tt
  all_filtered P p (x ∷ xs) h =
      elim (p x) as (λ b. AllByRecursion P (map name (cond b (x ∷ filter p xs) (filter p xs)))) [
        | true ↦ (h.0, all_filtered P p xs h.1)
        | false ↦ all_filtered P p xs h.1
      ]

  -- some of rising names rise
  pub rises-filter : (p : X → Bool) (xs : List X) → AreRising name xs → AreRising name (filter p xs)
  rises-filter p [] h = h
  rises-filter p (x ∷ xs) h =
      elim (p x) as (λ b. AreRising name (cond b (x ∷ filter p xs) (filter p xs))) [
        | true ↦ rises_from x (filter p xs) (all_filtered (λ v. name_cmp (name x) v ≡ Less) p xs (head_before x xs h)) (rises-filter p xs (tail_rises x xs h))
        | false ↦ rises-filter p xs (tail_rises x xs h)
      ]

  -- what holds of all names and of a new one holds once that one is inserted
  pub all_inserted : (P : Name → Type 0) (r : X) (xs : List X) → P (name r) → AllByRecursion P (map name xs) → AllByRecursion P (map name (inserted name r xs))
  all_inserted P r [] p h = (p, tt)
  all_inserted P r (x ∷ xs) p h =
      elim (is_before (name x) (name r)) as (λ b. AllByRecursion P (map name (cond b (x ∷ inserted name r xs) (r ∷ x ∷ xs)))) [
        | true ↦ (h.0, all_inserted P r xs p h.1)
        | false ↦ (p, h)
      ]

  -- all stand after what stands before the first
  pub all_after : (v w : Name) (vs : List Name) → name_cmp v w ≡ Less → AllByRecursion (λ u. name_cmp w u ≡ Less) vs → AllByRecursion (λ u. name_cmp v u ≡ Less) vs
  all_after v w [] h k = tt
  all_after v w (u ∷ vs) h k = (names_total.trans v w u h k.0, all_after v w vs h k.1)

  -- a new name is before the head, or after it
  sides : (o : Ordering) → is_eq o ≡ false → (o ≡ Less) ⊎ (o ≡ Greater)
  sides Less h = inl refl
  sides Equal h = cc
  sides Greater h = inr refl

  -- rising names rise with a new one at its place
  pub rises-inserted : (r : X) (xs : List X) → named name (name r) xs ≡ None → AreRising name xs → AreRising name (inserted name r xs)
  rises-inserted r [] none h = rises_from r [] tt h
  rises-inserted r (x ∷ xs) none h =
      let new : name_eq (name x) (name r) ≡ false = unnamed (name_eq (name x) (name r)) x (named name (name r) xs) none in
      elim (sides (name_cmp (name x) (name r)) new) [
        | inl less ↦ rw less (rises_from x (inserted name r xs) (all_inserted (λ v. name_cmp (name x) v ≡ Less) r xs less (head_before x xs h)) (rises-inserted r xs (rw new at none) (tail_rises x xs h)))
        | inr greater ↦ rw greater (rises_from r (x ∷ xs) (greater_is_after (name x) (name r) greater, all_after (name r) (name x) (map name xs) (greater_is_after (name x) (name r) greater) (head_before x xs h)) h)
      ]

  pub rises_none : AreRising name []
  unfolding IsStrictlySortedBy
  rises_none = tt

  -- once those of a name are out, there is none
  pub named-without : (v : Name) (xs : List X) → named name v (without name v xs) ≡ None
  named-without v [] = refl
  named-without v (x ∷ xs) =
      elim (sides_of (name_eq (name x) v)) [
        | inl same ↦ rw same (named-without v xs)
        | inr apart ↦ rw (apart, apart) (named-without v xs)
      ]

  -- rising names rise when the one of a name is replaced
  pub rises-replaced : (r : X) (xs : List X) → AreRising name xs → AreRising name (inserted name r (without name (name r) xs))
  rises-replaced r xs h = rises-inserted r (without name (name r) xs) (named-without (name r) xs) (rises-filter (λ x. not (name_eq (name x) (name r))) xs h)

  -- some of those among which there is none of a name have none of it
  pub named-filter : (p : X → Bool) (v : Name) (xs : List X) → named name v xs ≡ None → named name v (filter p xs) ≡ None
  named-filter p v [] none = refl
  named-filter p v (x ∷ xs) none =
      let apart : name_eq (name x) v ≡ false = unnamed (name_eq (name x) v) x (named name v xs) none in
      elim (p x) as (λ b. named name v (cond b (x ∷ filter p xs) (filter p xs)) ≡ None) [
        | true ↦ rw apart (named-filter p v xs (rw apart at none))
        | false ↦ named-filter p v xs (rw apart at none)
      ]
