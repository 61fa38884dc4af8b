-- A slab's values by rising number: a table's slots, as contracts see them.
use Rattle.std.proofs.Common.{IsSome, Result, OnOk, OnErr, ◌≡◌, ◌≤◌, ◌<◌, ◌+◌, ◌==◌, ℕ, zero, suc, if◌then◌else◌, List, [], ◌∷◌, ◌++◌, length, map, get_or, Option, Some, None, is_some, count_by, cond, true, false, refl, sym, ap, ◌∙◌, inl, inr, arith}
use Rattle.mr_session.proofs.Names.{AllZip, AreNumberedTo, AreOnce, AreSlots, AreUpTo, Entry, HasNumber, IsSlotClone, IsTable, Numbered, RisesFrom, Slab}
use Rattle.mr_session.proofs.Names.{Table, at, by_number, changed, eqb_tells, open_at, option_map, slab_len, sum_by-cons, value_at, value_in, with_at}
use Rattle.mr_session.specs.declared.limits.TheConstants.{MAX_OPEN}
use Rattle.mr_session.proofs.SlotLemmas.{has_found, none_at}
use Rattle.mr_session.proofs.TableLemmas.{same_list, at_put, rises_put, length-put, numbered-put, others, at-others, rises-others, at-behind, rises-behind, at-changed, rises-changed}

module _ {T : Type 0} where
  -- what is under a number is the same in the slots and in their values by number
  pub at-by_number : (slots : List (Option (Entry T))) (n : ℕ) → at (by_number slots) n ≡ value_in slots n
  at-by_number [] n = refl
  at-by_number (None ∷ slots) n = at-by_number slots n
  at-by_number (Some entry ∷ slots) n = grind (arith, at-by_number slots n, at_put)

  -- no number stands twice in the slots, and each is at least 1 and at most the last
  record AreGood (slots : List (Option (Entry T))) (last : ℕ) : Type 0 where
    once : (key other : ℕ) (e f : Entry T) → get_or slots key None ≡ Some e → get_or slots other None ≡ Some f → e.number ≡ f.number → key ≡ other
    from : (key : ℕ) (e : Entry T) → get_or slots key None ≡ Some e → 1 ≤ e.number
    to : (key : ℕ) (e : Entry T) → get_or slots key None ≡ Some e → e.number ≤ last

  rest_good : (slot : Option (Entry T)) (slots : List (Option (Entry T))) (last : ℕ) → AreGood (slot ∷ slots) last → AreGood slots last
  rest_good slot slots last good = record {
    once = λ key other e f a b same. omega (arith, good.once (suc key) (suc other) e f a b same);
    from = λ key e a. good.from (suc key) e a;
    to = λ key e a. good.to (suc key) e a;
  }

  head_alone : (entry : Entry T) (slots : List (Option (Entry T))) (last : ℕ) → AreGood (Some entry ∷ slots) last → value_in slots entry.number ≡ None
  head_alone entry slots last good = by_value (value_in slots entry.number) refl
    where
      by_value : (o : Option T) → value_in slots entry.number ≡ o → value_in slots entry.number ≡ None
      by_value None is = is
      by_value (Some v) is =
          let there = has_found slots entry.number v is in
          absurd (omega (arith, good.once zero (suc there.0) entry there.1 refl there.2 (sym there.3)))

  rises_good : (slots : List (Option (Entry T))) (last : ℕ) → AreGood slots last → RisesFrom 0 (by_number slots)
  rises_good [] last good = tt
  rises_good (None ∷ slots) last good = rises_good slots last (rest_good None slots last good)
  rises_good (Some entry ∷ slots) last good =
      rises_put 0 (record { number = entry.number; value = entry.value }) (by_number slots) (good.from zero entry refl) (rises_good slots last (rest_good (Some entry) slots last good))
      (at-by_number slots entry.number ∙ head_alone entry slots last good)

  numbered_good : (slots : List (Option (Entry T))) (last : ℕ) → AreGood slots last → AreNumberedTo last (by_number slots)
  numbered_good [] last good = tt
  numbered_good (None ∷ slots) last good = numbered_good slots last (rest_good None slots last good)
  numbered_good (Some entry ∷ slots) last good =
      numbered-put last (record { number = entry.number; value = entry.value }) (by_number slots) (good.to zero entry refl) (numbered_good slots last (rest_good (Some entry) slots last good))

  length_slots : (slots : List (Option (Entry T))) → length (by_number slots) ≡ count_by is_some slots
  length_slots [] = refl
  length_slots (None ∷ slots) = omega (arith, length_slots slots, sum_by-cons (λ (o : Option (Entry T)). cond (is_some o) 1 0) None slots)
  length_slots (Some entry ∷ slots) =
      omega (arith, length-put (record { number = entry.number; value = entry.value }) (by_number slots), length_slots slots, sum_by-cons (λ (o : Option (Entry T)). cond (is_some o) 1 0) (Some entry) slots)

  -- there is one value for each entry
  pub length-by_number : (s : Slab (Entry T)) → length (by_number s.slots) ≡ slab_len s
  length-by_number s = length_slots s.slots

  good_slots : (s : Slab (Entry T)) (last : ℕ) → AreOnce s → AreUpTo s last → AreGood s.slots last
  good_slots s last once up = record {
    once = λ key other e f a b same. once e.number key other (e, a, refl) (f, b, sym same);
    from = λ key e a. (up e.number key (e, a, refl)).0;
    to = λ key e a. (up e.number key (e, a, refl)).1;
  }

  -- the slots are a table
  pub table_of : (s : Slab (Entry T)) (opened : ℕ) → AreSlots s opened → IsTable (record { opened = opened; open_ones = by_number s.slots })
  table_of s opened are =
      let good = good_slots s opened are.once are.up_to in
      record {
        rising = rises_good s.slots opened good;
        given = numbered_good s.slots opened good;
        few = rw (length-by_number s) are.few;
      }

  -- the values by number are these, if these rise and have the same under each number
  told : (s : Slab (Entry T)) (last : ℕ) (xs : List (Numbered T)) → AreOnce s → AreUpTo s last → RisesFrom 0 xs → ((n : ℕ) → value_at s n ≡ at xs n) → by_number s.slots ≡ xs
  told s last xs once up rises same =
      same_list 0 0 (by_number s.slots) xs (rises_good s.slots last (good_slots s last once up)) rises (λ n. at-by_number s.slots n ∙ same n)

  values_same : (s : Slab (Entry T)) → value_at s ≡ at (by_number s.slots)
  values_same s = λ i n. sym (at-by_number s.slots n) i

  module _ (old new : Slab (Entry T)) (last n : ℕ) (are : AreSlots old last) (once : AreOnce new) where
    -- a number's entry has left the slots
    pub closed_view : AreUpTo new last → value_at new ≡ with_at n None (value_at old) → by_number new.slots ≡ others n (by_number old.slots)
    closed_view up left =
        told new last (others n (by_number old.slots)) once up (rises-others 0 n (by_number old.slots) (table_of old last are).rising)
        (λ m. ap (λ (f : ℕ → Option T). f m) left ∙ (ap (λ (f : ℕ → Option T). with_at n None f m) (values_same old) ∙ at-others n (by_number old.slots) m))

    -- a number's entry has changed
    pub changed_view : (change : T → T) → AreUpTo new last → value_at new ≡ with_at n (option_map change (value_at old n)) (value_at old) → by_number new.slots ≡ map (changed n change) (by_number old.slots)
    changed_view change up left =
        told new last (map (changed n change) (by_number old.slots)) once up (rises-changed 0 n change (by_number old.slots) (table_of old last are).rising)
        (λ m. ap (λ (f : ℕ → Option T). f m) left ∙ (ap (λ (f : ℕ → Option T). with_at n (option_map change (f n)) f m) (values_same old) ∙ at-changed n change (by_number old.slots) m))

  -- nothing is under the number after the last one given
  pub none_above : (s : Slab (Entry T)) (last n : ℕ) → AreSlots s last → last < n → value_at s n ≡ None
  none_above s last n are above = none_at s n are.once (λ key has. omega (arith, (are.up_to n key has).1))

  -- an entry has come under the number after the last one given
  pub opened_view : (old new : Slab (Entry T)) (last : ℕ) (v : T) → AreSlots old last → AreOnce new → AreUpTo new (last + 1) → value_at new ≡ with_at (last + 1) (Some v) (value_at old) → by_number new.slots ≡ by_number old.slots ++ (record { number = last + 1; value = v }) ∷ []
  opened_view old new last v are once up came =
      let x : Numbered T = record { number = last + 1; value = v } in
      let none : at (by_number old.slots) (last + 1) ≡ None = at-by_number old.slots (last + 1) ∙ none_above old last (last + 1) are (omega arith) in
      let table = table_of old last are in
      told new (last + 1) (by_number old.slots ++ x ∷ []) once up (rises-behind 0 last x (by_number old.slots) table.rising table.given (omega arith) (omega arith))
      (λ m. ap (λ (f : ℕ → Option T). f m) came ∙ (ap (λ (f : ℕ → Option T). with_at (last + 1) (Some v) f m) (values_same old) ∙ at-behind x (by_number old.slots) none m))

  twice_at : (n : ℕ) (a b : Option T) (values : ℕ → Option T) (m : ℕ) → with_at n b (with_at n a values) m ≡ with_at n b values m
  twice_at n a b values m = elim (n == m) as (λ t. (if t then b else (if t then a else values m)) ≡ (if t then b else values m)) [ true ↦ refl | false ↦ refl ]

  -- of two changes under one number the later one stays
  pub twice : (n : ℕ) (a b : Option T) (values : ℕ → Option T) → with_at n b (with_at n a values) ≡ with_at n b values
  twice n a b values = λ i m. twice_at n a b values m i

  -- what is open in a table is in its slots
  pub some_in : (s : Slab (Entry T)) (table : Table T) (opened n : ℕ) → record { opened = opened; open_ones = by_number s.slots } ≡ table → IsSome (open_at table n) → IsSome (value_at s n)
  some_in s table opened n is open_one = rw (at-by_number s.slots n) at (rw (← is) at open_one)

  -- what was taken away is gone
  pub gone : (s : Slab (Entry T)) (n : ℕ) (values : ℕ → Option T) → value_at s ≡ with_at n None values → value_at s n ≡ None
  gone s n values left = ap (λ (f : ℕ → Option T). f n) left ∙ here
    where
      here : with_at n None values n ≡ None
      here = elim (eqb_tells n n) [ inl is ↦ rw is.0 refl | inr differs ↦ absurd (differs.1 refl) ]

  module _ (old lifted new : Slab (Entry T)) (last n : ℕ) (was now : T) (are : AreSlots old last) (once : AreOnce new) (up : AreUpTo new last) (found : value_at old n ≡ Some was) (left : value_at lifted ≡ with_at n None (value_at old)) (placed : value_at new ≡ with_at n (Some now) (value_at lifted)) where
    put_back : value_at new ≡ with_at n (Some now) (value_at old)
    put_back = placed ∙ (ap (with_at n (Some now)) left ∙ twice n None (Some now) (value_at old))

    -- a value that was taken out, changed and put back
    pub replaced_view : (change : T → T) → now ≡ change was → by_number new.slots ≡ map (changed n change) (by_number old.slots)
    replaced_view change is =
        changed_view old new last n are once change up (put_back ∙ ap (λ (o : Option T). with_at n o (value_at old)) (ap Some is ∙ sym (ap (option_map change) found)))

module _ {A E : Type 0} where
  pub on_ok : (r : Result A E) (P Q : Type 0) → OnOk r P → (P → Q) → OnOk r Q
  on_ok r P Q p f = grind arith

  pub on_err : (r : Result A E) (P Q : Type 0) → OnErr r P → (P → Q) → OnErr r Q
  on_err r P Q p f = grind arith

module _ {T : Type 0} where
  -- room changes nothing that stands in the slots
  pub reserved : (old new : Slab (Entry T)) (last : ℕ) → AreSlots old last → new ≡ record old { capacity = new.capacity } → AreSlots new last
  reserved old new last are same = rw same (record { once = are.once; up_to = are.up_to; few = are.few })

  up_more : (s : Slab (Entry T)) (last : ℕ) → AreUpTo s last → AreUpTo s (last + 1)
  up_more s last up number key has = let bounds = up number key has in (bounds.0, omega (arith, bounds.1))

  -- what is under a number shows that it was given
  pub given_at : (s : Slab (Entry T)) (last n : ℕ) (v : T) → AreUpTo s last → value_at s n ≡ Some v → (1 ≤ n) × (n ≤ last)
  given_at s last n v up found = let there = has_found s.slots n v found in up n there.0 (there.1, there.2, there.3)

  -- a table's slots with room, and with the entry that has come under the number after the last one given
  module _ (old reserved_slots new : Slab (Entry T)) (last : ℕ) (v : T) (are : AreSlots old last) (same : reserved_slots ≡ record old { capacity = reserved_slots.capacity }) (once : AreOnce new) (up : (to : ℕ) → 1 ≤ last + 1 → last + 1 ≤ to → AreUpTo reserved_slots to → AreUpTo new to) where
    opened_up : AreUpTo new (last + 1)
    opened_up = up (last + 1) (omega arith) (omega arith) (up_more reserved_slots last (reserved old reserved_slots last are same).up_to)

    pub opened_slots : (table : Table T) → record { opened = last; open_ones = by_number old.slots } ≡ table → length table.open_ones < MAX_OPEN → slab_len new ≡ slab_len reserved_slots + 1 → AreSlots new (last + 1)
    opened_slots table is room count =
        let before : length (by_number old.slots) < MAX_OPEN = rw (← is) at room in
        let kept : slab_len reserved_slots ≡ slab_len old = ap (λ (s : Slab (Entry T)). slab_len s) same in
        record { once = once; up_to = opened_up; few = omega (arith, before, length-by_number old, kept, count) }

    pub opened_table : value_at new ≡ with_at (last + 1) (Some v) (value_at reserved_slots) → by_number new.slots ≡ by_number old.slots ++ (record { number = last + 1; value = v }) ∷ []
    opened_table came =
        opened_view reserved_slots new last v (reserved old reserved_slots last are same) once opened_up came
        ∙ ap (λ (s : Slab (Entry T)). by_number s.slots ++ (record { number = last + 1; value = v }) ∷ []) same

module _ {A B : Type 0} where
  pub is_some-map : (f : A → B) (o : Option A) → is_some o ≡ is_some (option_map f o)
  is_some-map f o = grind arith

module _ {T : Type 0} (is_clone : T → T → Type 0) (equal : (x y : T) → is_clone x y → y ≡ x) where
  -- each slot's clone has an equal number, and a clone of the value
  abbrev pub IsSlotCopy : Option (Entry T) → Option (Entry T) → Type 0
  IsSlotCopy = IsSlotClone (λ (e f : Entry T). (f.number ≡ e.number) × is_clone e.value f.value)

  same_slot : (slot copy : Option (Entry T)) → IsSlotCopy slot copy → copy ≡ slot
  same_slot slot copy is = grind arith

  -- slots of which each is a copy of the other's are the same
  pub same_slots : (slots copies : List (Option (Entry T))) → AllZip IsSlotCopy slots copies → copies ≡ slots
  same_slots [] [] are = refl
  same_slots [] (y ∷ ys) are = absurd are
  same_slots (x ∷ xs) [] are = absurd are
  same_slots (x ∷ xs) (y ∷ ys) are = λ i. same_slot x y are.0 i ∷ same_slots xs ys are.1 i

module _ {T : Type 0} where
  -- a slab with a table's slots is a table's too
  pub slots_of : (s copy : Slab (Entry T)) (opened : ℕ) → copy.slots ≡ s.slots → AreSlots s opened → AreSlots copy opened
  slots_of s copy opened same are =
      record {
        once = λ n key other a b. are.once n key other (back_in n key a) (back_in n other b);
        up_to = λ n key a. are.up_to n key (back_in n key a);
        few = rw same are.few;
      }
    where
      back_in : (n key : ℕ) → HasNumber copy n key → HasNumber s n key
      back_in n key a = (a.0, ap (λ (xs : List (Option (Entry T))). get_or xs key None) (sym same) ∙ a.1, a.2)
