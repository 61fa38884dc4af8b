-- The open numbers, by a sort of those that stand in the slots: two lists of numbers that do not fall are one where each function
-- adds up to the same over both.
use Rattle.std.proofs.Common.{◌≡◌, ◌≤◌, ◌<◌, ◌+◌, ℕ, zero, suc, nat_lt, cond, List, [], ◌∷◌, length, map, get_or, Option, Some, None, refl, ap, ◌∙◌, inl, inr, arith}
use Rattle.mr_session.proofs.Names.{AreSlots, Entry, IsNonDecreasing, IsPermutation, Numbered, RisesFrom, Slab, by_number, entries, entries_from, le-ltb}
use Rattle.mr_session.proofs.Names.{lt-ltb, put, sum_by, sum_by-IsPermutation, sum_by-cons}
use Rattle.mr_session.proofs.TableLemmas.{lt_tells}
use Rattle.mr_session.proofs.ViewLemmas.{table_of}

-- 1 for each number below the bound
abbrev below : ℕ → ℕ → ℕ
below bound n = cond (nat_lt n bound) 1 0

below_one : (bound n : ℕ) → n < bound → below bound n ≡ 1
below_one bound n is = rw (lt-ltb n bound is) refl

below_none : (bound n : ℕ) → bound ≤ n → below bound n ≡ 0
below_none bound n is = rw (le-ltb n bound is) refl

none_below : (low : ℕ) (xs : List ℕ) → ((j d : ℕ) → j < length xs → low ≤ get_or xs j d) → sum_by (below low) xs ≡ 0
none_below low [] up = refl
none_below low (x ∷ xs) up =
    let here = below_none low x (up zero 0 (omega arith)) in
    let rest = none_below low xs (λ j d inside. up (suc j) d (omega (arith, inside))) in
    omega (arith, sum_by-cons (below low) x xs, here, rest)

module _ {T : Type 0} where
  abbrev pub numbers_of : List (Numbered T) → List ℕ
  numbers_of xs = map (λ x. x.number) xs

  none_rising : (low bound : ℕ) (ys : List (Numbered T)) → bound ≤ low → RisesFrom low ys → sum_by (below bound) (numbers_of ys) ≡ 0
  none_rising low bound [] le rises = refl
  none_rising low bound (y ∷ ys) le rises = grind (arith, none_rising y.number bound ys, below_none, sum_by-cons)

  one_list : (low : ℕ) (xs : List ℕ) (ys : List (Numbered T)) → IsNonDecreasing xs → RisesFrom low ys → ((f : ℕ → ℕ) → sum_by f xs ≡ sum_by f (numbers_of ys)) → xs ≡ numbers_of ys
  one_list low [] [] up rises same = refl
  one_list low [] (y ∷ ys) up rises same = absurd (omega (arith, same (λ _. 1), sum_by-cons (λ _. 1) y.number (numbers_of ys)))
  one_list low (x ∷ xs) [] up rises same = absurd (omega (arith, same (λ _. 1), sum_by-cons (λ _. 1) x xs))
  one_list low (x ∷ xs) (y ∷ ys) up rises same =
      let e = heads in
      let tails = one_list y.number xs ys (λ i j d le inside. up (suc i) (suc j) d (omega (arith, le)) (omega (arith, inside))) rises.1
      (λ f. omega (arith, same f, sum_by-cons f x xs, sum_by-cons f y.number (numbers_of ys), ap f e)) in
      λ i. e i ∷ tails i
    where
      heads : x ≡ y.number
      heads = elim (lt_tells x y.number) [
        | inl less ↦
            let bound : ℕ = y.number in
            let f : ℕ → ℕ = below bound in
            absurd (omega (arith, same f, sum_by-cons f x xs, sum_by-cons f y.number (numbers_of ys), below_one bound x less.1, below_none bound bound (omega arith), none_rising y.number bound ys (omega arith) rises.1))
        | inr more ↦ elim (lt_tells y.number x) [
          | inl less ↦
              let f : ℕ → ℕ = below x in
              absurd (omega (arith, same f, sum_by-cons f y.number (numbers_of ys), below_one x y.number less.1, none_below x (x ∷ xs) (λ j d inside. up zero j d (omega arith) inside)))
          | inr other ↦ omega (arith, more.1, other.1)
        ]
      ]

  sums_put : (f : ℕ → ℕ) (x : Numbered T) (ys : List (Numbered T)) → sum_by f (numbers_of (put x ys)) ≡ f x.number + sum_by f (numbers_of ys)
  sums_put f x [] = sum_by-cons f x.number []
  sums_put f x (y ∷ ys) =
      elim (lt_tells y.number x.number) [
        | inl less ↦ rw less.0 (omega (arith, sum_by-cons f y.number (numbers_of (put x ys)), sum_by-cons f y.number (numbers_of ys), sums_put f x ys))
        | inr more ↦ rw more.0 (sum_by-cons f x.number (numbers_of (y ∷ ys)))
      ]

  sums_slots : (f : ℕ → ℕ) (key : ℕ) (slots : List (Option (Entry T))) → sum_by f (map (λ e. e.1.number) (entries_from key slots)) ≡ sum_by f (numbers_of (by_number slots))
  sums_slots f key [] = refl
  sums_slots f key (None ∷ slots) = sums_slots f (key + 1) slots
  sums_slots f key (Some entry ∷ slots) =
      let rest = sums_slots f (key + 1) slots in
      omega (arith, sum_by-cons f entry.number (map (λ e. e.1.number) (entries_from (key + 1) slots)), rest, sums_put f (record { number = entry.number; value = entry.value }) (by_number slots))

  -- what a sort of the slots' numbers gives
  pub sorted_numbers : (slab : Slab (Entry T)) (opened : ℕ) (found sorted : List ℕ) → AreSlots slab opened → found ≡ map (λ e. e.1.number) (entries slab) → IsPermutation found sorted → IsNonDecreasing sorted → sorted ≡ numbers_of (by_number slab.slots)
  sorted_numbers slab opened found sorted are is permuted up =
      one_list 0 sorted (by_number slab.slots) up (table_of slab opened are).rising
      (λ f. sum_by-IsPermutation f found sorted permuted ∙ (ap (sum_by f) is ∙ sums_slots f 0 slab.slots))
