-- Values under rising numbers. Such a list is told by what is under each number, so each change of it is shown by what
-- it has under each.
use Rattle.std.proofs.Common.{◌≡◌, ◌≢◌, ◌⊎◌, ◌≤◌, ◌<◌, ◌==◌, ℕ, suc, true, false, not, nat_lt, if◌then◌else◌, List, [], ◌∷◌, ◌++◌, length, map, filter, Option, Some, None, refl, sym, ap, ◌∙◌, inl, inr, arith}
use Rattle.mr_session.proofs.Names.{AreNumberedTo, IsTable, Numbered, RisesFrom, Table, at, cases_eq, changed, eqb_tells, ltb-false, ltb-true, open_at}
use Rattle.mr_session.proofs.Names.{option_map, put, with_at, with_changed}

pub lt_tells : (a b : ℕ) → ((nat_lt a b ≡ true) × (a < b)) ⊎ ((nat_lt a b ≡ false) × (b ≤ a))
lt_tells a b = grind (arith, ltb-true, ltb-false)

module _ {T : Type 0} where
  at_same : (x : Numbered T) (xs : List (Numbered T)) (n : ℕ) → x.number ≡ n → at (x ∷ xs) n ≡ Some x.value
  at_same x xs n same = elim (eqb_tells x.number n) [ inl is ↦ rw is.0 refl | inr differs ↦ absurd (differs.1 same) ]

  at_other : (x : Numbered T) (xs : List (Numbered T)) (n : ℕ) → x.number ≢ n → at (x ∷ xs) n ≡ at xs n
  at_other x xs n differ = elim (eqb_tells x.number n) [ inl is ↦ absurd (differ is.1) | inr differs ↦ rw differs.0 refl ]

  -- nothing is under a number up to the one from which they rise
  at_below : (low : ℕ) (xs : List (Numbered T)) (n : ℕ) → RisesFrom low xs → n ≤ low → at xs n ≡ None
  at_below low [] n rises under = refl
  at_below low (x ∷ xs) n rises under = grind (arith, at_below x.number xs n rises.1, at_other)

  rises_lower : (low high : ℕ) (xs : List (Numbered T)) → low ≤ high → RisesFrom high xs → RisesFrom low xs
  rises_lower low high [] le rises = tt
  rises_lower low high (x ∷ xs) le rises = (omega (arith, rises.0), rises.1)

  -- lists that rise and have the same under each number are one
  pub same_list : (low high : ℕ) (xs ys : List (Numbered T)) → RisesFrom low xs → RisesFrom high ys → ((n : ℕ) → at xs n ≡ at ys n) → xs ≡ ys
  same_list low high [] [] r s same = refl
  same_list low high [] (y ∷ ys) r s same = let here = at_same y ys y.number refl in let there = same y.number in absurd (cc)
  same_list low high (x ∷ xs) [] r s same = let here = at_same x xs x.number refl in let there = same x.number in absurd (cc)
  same_list low high (x ∷ xs) (y ∷ ys) r s same =
      elim (lt_tells x.number y.number) [
        | inl less ↦
            let here = at_same x xs x.number refl in
            let there = same x.number in
            let none = at_below x.number (y ∷ ys) x.number (less.1, s.1) (omega arith) in
            absurd (cc)
        | inr more ↦ elim (lt_tells y.number x.number) [
          | inl less ↦
              let here = at_same y ys y.number refl in
              let there = same y.number in
              let none = at_below y.number (x ∷ xs) y.number (less.1, r.1) (omega arith) in
              absurd (cc)
          | inr other ↦
              let numbers : x.number ≡ y.number = omega (arith, more.1, other.1) in
              let found : Some x.value ≡ Some y.value = sym (at_same x xs x.number refl) ∙ (same x.number ∙ at_same y ys x.number (sym numbers)) in
              let values : x.value ≡ y.value = cc in
              let rest : xs ≡ ys = same_list x.number y.number xs ys r.1 s.1 (tails numbers) in
              λ i. (record { number = numbers i; value = values i }) ∷ rest i
        ]
      ]
    where
      tails : x.number ≡ y.number → (n : ℕ) → at xs n ≡ at ys n
      tails numbers n =
          elim (cases_eq x.number n) [
            | inl is ↦ at_below x.number xs n r.1 (omega arith) ∙ sym (at_below y.number ys n s.1 (omega arith))
            | inr differs ↦ sym (at_other x xs n differs) ∙ (same n ∙ at_other y ys n (λ e. differs (numbers ∙ e)))
          ]

  -- ---- one more, at its place

  pub at_put : (x : Numbered T) (ys : List (Numbered T)) (n : ℕ) → at (put x ys) n ≡ (if x.number == n then Some x.value else at ys n)
  at_put x [] n = refl
  at_put x (y ∷ ys) n = grind (arith, at_put x ys n, lt_tells, eqb_tells)

  pub rises_put : (low : ℕ) (x : Numbered T) (ys : List (Numbered T)) → low < x.number → RisesFrom low ys → at ys x.number ≡ None → RisesFrom low (put x ys)
  rises_put low x [] above rises none = (above, tt)
  rises_put low x (y ∷ ys) above rises none = grind (arith, rises_put y.number x ys, lt_tells, at_other, at_same)

  pub length-put : (x : Numbered T) (ys : List (Numbered T)) → length (put x ys) ≡ suc (length ys)
  length-put x [] = refl
  length-put x (y ∷ ys) = elim (lt_tells y.number x.number) [ inl less ↦ rw less.0 (ap suc (length-put x ys)) | inr more ↦ rw more.0 refl ]

  pub numbered-put : (last : ℕ) (x : Numbered T) (ys : List (Numbered T)) → x.number ≤ last → AreNumberedTo last ys → AreNumberedTo last (put x ys)
  numbered-put last x [] to are = (to, tt)
  numbered-put last x (y ∷ ys) to are = elim (lt_tells y.number x.number) [ inl less ↦ rw less.0 (are.0, numbered-put last x ys to are.1) | inr more ↦ rw more.0 (to, are) ]

  -- ---- one is taken away

  abbrev pub others : ℕ → List (Numbered T) → List (Numbered T)
  others n xs = filter (λ x. not (x.number == n)) xs

  others_same : (n : ℕ) (xs : List (Numbered T)) → at (others n xs) n ≡ None
  others_same n [] = refl
  others_same n (x ∷ xs) = elim (eqb_tells x.number n) [ inl is ↦ rw is.0 (others_same n xs) | inr differs ↦ rw differs.0 (rw differs.0 (others_same n xs)) ]

  others_other : (n m : ℕ) (xs : List (Numbered T)) → n ≢ m → at (others n xs) m ≡ at xs m
  others_other n m [] differ = refl
  others_other n m (x ∷ xs) differ = grind (arith, others_other n m xs differ, eqb_tells, at_other)

  pub at-others : (n : ℕ) (xs : List (Numbered T)) (m : ℕ) → with_at n None (at xs) m ≡ at (others n xs) m
  at-others n xs m = grind (arith, eqb_tells, others_same, others_other)

  pub rises-others : (low n : ℕ) (xs : List (Numbered T)) → RisesFrom low xs → RisesFrom low (others n xs)
  rises-others low n [] rises = tt
  rises-others low n (x ∷ xs) rises = grind (arith, rises-others x.number n xs rises.1, eqb_tells, rises_lower)

  -- ---- one more, behind the others

  behind_same : (x : Numbered T) (xs : List (Numbered T)) → at xs x.number ≡ None → at (xs ++ x ∷ []) x.number ≡ Some x.value
  behind_same x [] none = at_same x [] x.number refl
  behind_same x (y ∷ ys) none = grind (arith, behind_same x ys, eqb_tells)

  behind_other : (x : Numbered T) (xs : List (Numbered T)) (m : ℕ) → x.number ≢ m → at (xs ++ x ∷ []) m ≡ at xs m
  behind_other x [] m differ = at_other x [] m differ
  behind_other x (y ∷ ys) m differ = ap (λ (o : Option T). if y.number == m then Some y.value else o) (behind_other x ys m differ)

  pub at-behind : (x : Numbered T) (xs : List (Numbered T)) → at xs x.number ≡ None → (m : ℕ) → with_at x.number (Some x.value) (at xs) m ≡ at (xs ++ x ∷ []) m
  at-behind x xs h m = grind (arith, eqb_tells, behind_same, behind_other)

  pub rises-behind : (low last : ℕ) (x : Numbered T) (xs : List (Numbered T)) → RisesFrom low xs → AreNumberedTo last xs → low < x.number → last < x.number → RisesFrom low (xs ++ x ∷ [])
  rises-behind low last x [] rises are above beyond = (above, tt)
  rises-behind low last x (y ∷ ys) rises are above beyond = (rises.0, rises-behind y.number last x ys rises.1 are.1 (omega (arith, are.0)) beyond)

  -- ---- one is changed

  changed_number : (n : ℕ) (change : T → T) (x : Numbered T) → (changed n change x).number ≡ x.number
  changed_number n change x = elim (eqb_tells x.number n) [ inl is ↦ rw is.0 (sym is.1) | inr differs ↦ rw differs.0 refl ]

  changed_same : (n : ℕ) (change : T → T) (xs : List (Numbered T)) → at (map (changed n change) xs) n ≡ option_map change (at xs n)
  changed_same n change [] = refl
  changed_same n change (x ∷ xs) = grind (arith, changed_same n change xs, eqb_tells, at_same)

  changed_other : (n m : ℕ) (change : T → T) (xs : List (Numbered T)) → n ≢ m → at (map (changed n change) xs) m ≡ at xs m
  changed_other n m change [] differ = refl
  changed_other n m change (x ∷ xs) differ = grind (arith, changed_other n m change xs differ, eqb_tells, at_other)

  pub at-changed : (n : ℕ) (change : T → T) (xs : List (Numbered T)) (m : ℕ) → with_at n (option_map change (at xs n)) (at xs) m ≡ at (map (changed n change) xs) m
  at-changed n change xs m = grind (arith, eqb_tells, changed_same, changed_other)

  pub rises-changed : (low n : ℕ) (change : T → T) (xs : List (Numbered T)) → RisesFrom low xs → RisesFrom low (map (changed n change) xs)
  rises-changed low n change [] rises = tt
  rises-changed low n change (x ∷ xs) rises = rw (changed_number n change x) (rises.0, rises-changed x.number n change xs rises.1)

  -- two changes do the same where they agree on what is under the number
  pub same_change : (n : ℕ) (f h : T → T) (v : T) (xs : List (Numbered T)) → RisesFrom 0 xs → at xs n ≡ Some v → f v ≡ h v → map (changed n f) xs ≡ map (changed n h) xs
  same_change n f h v xs rises found agree =
      let values : option_map f (at xs n) ≡ option_map h (at xs n) = ap (option_map f) found ∙ (ap Some agree ∙ sym (ap (option_map h) found)) in
      same_list 0 0 (map (changed n f) xs) (map (changed n h) xs) (rises-changed 0 n f xs rises) (rises-changed 0 n h xs rises)
      (λ m. sym (at-changed n f xs m) ∙ (ap (λ (o : Option T). with_at n o (at xs) m) values ∙ at-changed n h xs m))

  -- to change a value into itself changes nothing
  pub changed_itself : (n : ℕ) (xs : List (Numbered T)) → map (changed n (λ x. x)) xs ≡ xs
  changed_itself n [] = refl
  changed_itself n (x ∷ xs) = grind (arith, changed_itself n xs, eqb_tells)

  -- a table in which what is open under a number has become another value
  module _ (table new : Table T) (n : ℕ) (before after : T) (is : IsTable table) (found : open_at table n ≡ Some before) (becomes : new ≡ with_changed n (λ _. after) table) where
    -- it is changed by a function that does that
    pub changed_by : (change : T → T) → after ≡ change before → new ≡ with_changed n change table
    changed_by change same = grind (arith, same_change)

    -- where the value is the same nothing has changed
    pub unchanged : after ≡ before → new ≡ table
    unchanged same =
        let itself = changed_itself n table.open_ones in
        changed_by (λ x. x) same ∙ (λ i. record table { open_ones = itself i })
