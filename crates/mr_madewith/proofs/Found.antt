-- where a search by name ends among rising names
use Rattle.std.proofs.Common.{◌≡◌, ◌<◌, ◌≤◌, ℕ, zero, suc, false, refl, sym, ap, subst, ◌∙◌, arith, List, [], ◌∷◌, length, map, get_or, set, Result, Ok, Err, IfOk, IfErr, None}
use Rattle.std.specs.declared.cmp.Ordering.TheVariants.{Less, Equal, Greater}
use Rattle.std.specs.Ordering.{is_eq}
use Rattle.std.specs.List.{AllByRecursion, insert, remove, slice_get, AllWithin, HoldsAt}
use Rattle.std.specs.List.Sorted.{IsBinarySearchResult, IsSearchInRange}
use Rattle.std.proofs.lemmas.List.Sorted.{searchable_from_sorted}
use Rattle.mr_version.specs.Name.{Name, name_cmp, name_eq}
use Rattle.mr_version.specs.Order.{exact_names, names_total}
use Rattle.mr_madewith.specs.Keyed.{AreRising, named, without, inserted}
use Rattle.mr_madewith.specs.inner.Search.{IsFoundAt, IsGapFor}
use Rattle.mr_madewith.proofs.Rising.{not_after, head_before, tail_rises, sorted_by_name, at_place}

module _ {X : Type 0} (name : X → Name) where
  -- none of that name stands among names that are all before or after it
  pub without_none : (v : Name) (xs : List X) → AllByRecursion (λ u. name_eq u v ≡ false) (map name xs) → without name v xs ≡ xs
  without_none v [] h = refl
  without_none v (x ∷ xs) h = rw h.0 (ap (λ ys. x ∷ ys) (without_none v xs h.1))

  -- those after a name are not of it
  pub unlike_after : (v : Name) (us : List Name) → AllByRecursion (λ u. name_cmp v u ≡ Less) us → AllByRecursion (λ u. name_eq u v ≡ false) us
  unlike_after v [] h = tt
  unlike_after v (u ∷ us) h = (ap is_eq (names_total.antisymm u v) ∙ rw h.0 refl, unlike_after v us h.1)

  -- what goes before those after it goes first
  pub first_place : (x : X) (xs : List X) → AllByRecursion (λ u. name_cmp (name x) u ≡ Less) (map name xs) → inserted name x xs ≡ x ∷ xs
  first_place x [] h = refl
  first_place x (y ∷ ys) h = rw (not_after (name x) (name y) h.0) refl

  module _ (v : Name) where
    found_is : (xs : List X) (i : ℕ) → AreRising name xs → i < length xs → HoldsAt (λ x. name_cmp (name x) v ≡ Equal) xs i → named name v xs ≡ slice_get xs i
    found_is [] i rising within equal = absurd (omega arith)
    found_is (x ∷ xs) zero rising within equal = rw (equal x) refl
    found_is (x ∷ xs) (suc i) rising within equal =
        let before : name_cmp (name x) v ≡ Less = subst (λ w. name_cmp (name x) w ≡ Less) (exact_names _ v (equal x)) (at_place name (λ u. name_cmp (name x) u ≡ Less) xs i x (omega arith) (head_before name x xs rising)) in
        rw before (found_is xs i (tail_rises name x xs rising) (omega arith) equal)

    found_out : (xs : List X) (i : ℕ) → AreRising name xs → i < length xs → HoldsAt (λ x. name_cmp (name x) v ≡ Equal) xs i → remove xs i ≡ without name v xs
    found_out [] i rising within equal = absurd (omega arith)
    found_out (x ∷ xs) zero rising within equal =
        let same : name x ≡ v = exact_names (name x) v (equal x) in
        rw (equal x) (sym (without_none v xs (unlike_after v (map name xs) (subst (λ w. AllByRecursion (λ u. name_cmp w u ≡ Less) (map name xs)) same (head_before name x xs rising)))))
    found_out (x ∷ xs) (suc i) rising within equal =
        let before : name_cmp (name x) v ≡ Less = subst (λ w. name_cmp (name x) w ≡ Less) (exact_names (name (get_or xs i x)) v (equal x)) (at_place name (λ u. name_cmp (name x) u ≡ Less) xs i x (omega arith) (head_before name x xs rising)) in
        rw before (ap (λ ys. x ∷ ys) (found_out xs i (tail_rises name x xs rising) (omega arith) equal))

    found_over : (y : X) → name y ≡ v → (xs : List X) (i : ℕ) → AreRising name xs → i < length xs → HoldsAt (λ x. name_cmp (name x) v ≡ Equal) xs i → set xs i y ≡ inserted name y (without name v xs)
    found_over y is [] i rising within equal = absurd (omega arith)
    found_over y is (x ∷ xs) zero rising within equal =
        let same : name x ≡ v = exact_names (name x) v (equal x) in
        let later : AllByRecursion (λ u. name_cmp v u ≡ Less) (map name xs) = subst (λ w. AllByRecursion (λ u. name_cmp w u ≡ Less) (map name xs)) same (head_before name x xs rising) in
        rw (equal x) (rw (without_none v xs (unlike_after v (map name xs) later)) (sym (first_place y xs (subst (λ w. AllByRecursion (λ u. name_cmp w u ≡ Less) (map name xs)) (sym is) later))))
    found_over y is (x ∷ xs) (suc i) rising within equal =
        let before : name_cmp (name x) v ≡ Less = subst (λ w. name_cmp (name x) w ≡ Less) (exact_names (name (get_or xs i x)) v (equal x)) (at_place name (λ u. name_cmp (name x) u ≡ Less) xs i x (omega arith) (head_before name x xs rising)) in
        rw before (rw is (rw before (ap (λ ys. x ∷ ys) (found_over y is xs i (tail_rises name x xs rising) (omega arith) equal))))

    gap_none : (xs : List X) (i : ℕ) → i ≤ length xs → AllWithin (λ x. name_cmp (name x) v ≡ Less) xs 0 i → AllWithin (λ x. name_cmp (name x) v ≡ Greater) xs i (length xs) → AllByRecursion (λ u. name_eq u v ≡ false) (map name xs)
    gap_none [] i within low high = tt
    gap_none (x ∷ xs) zero within low high = (rw (high 0 x (omega arith) (omega arith)) refl, gap_none xs 0 (omega arith) (λ k d a b. absurd (omega arith)) (λ k d a b. high (suc k) d (omega arith) (omega arith)))
    gap_none (x ∷ xs) (suc i) within low high = (rw (low 0 x (omega arith) (omega arith)) refl, gap_none xs i (omega arith) (λ k d a b. low (suc k) d (omega arith) (omega arith)) (λ k d a b. high (suc k) d (omega arith) (omega arith)))

    gap_put : (y : X) → name y ≡ v → (xs : List X) (i : ℕ) → i ≤ length xs → AllWithin (λ x. name_cmp (name x) v ≡ Less) xs 0 i → AllWithin (λ x. name_cmp (name x) v ≡ Greater) xs i (length xs) → insert xs i y ≡ inserted name y xs
    gap_put y is [] zero within low high = refl
    gap_put y is [] (suc i) within low high = absurd (omega arith)
    gap_put y is (x ∷ xs) zero within low high = rw (is, high 0 x (omega arith) (omega arith)) refl
    gap_put y is (x ∷ xs) (suc i) within low high =
        rw (is, low 0 x (omega arith) (omega arith)) (ap (λ ys. x ∷ ys) (gap_put y is xs i (omega arith) (λ k d a b. low (suc k) d (omega arith) (omega arith)) (λ k d a b. high (suc k) d (omega arith) (omega arith))))

  unnamed_none : (v : Name) (xs : List X) → AllByRecursion (λ u. name_eq u v ≡ false) (map name xs) → named name v xs ≡ None
  unnamed_none v [] h = refl
  unnamed_none v (x ∷ xs) h = rw h.0 (unnamed_none v xs h.1)

  -- a binary search by name ends at the one of that name, or at its gap
  pub searched : (v : Name) (xs : List X) → AreRising name xs → (r : Result ℕ ℕ) → IsSearchInRange r (length xs) → IsBinarySearchResult (λ x. name_cmp (name x) v) xs r
      → record { found : IfOk r (IsFoundAt name v xs); absent : IfErr r (IsGapFor name v xs) }
  searched v xs rising (Ok i) within equal = record {
    found = record {
      within = within;
      is = found_is v xs i rising within equal;
      out = found_out v xs i rising within equal;
      over = λ y is. found_over v y is xs i rising within equal;
    };
    absent = tt;
  }
  searched v xs rising (Err i) within parted =
      let parts = parted (searchable_from_sorted names_total name xs v (sorted_by_name name xs rising)) in
      let unlike = gap_none v xs i within parts.0 parts.1 in
      record {
        found = tt;
        absent = record {
          within = within;
          none = unnamed_none v xs unlike;
          all = without_none v xs unlike;
          put = λ y is. gap_put v y is xs i within parts.0 parts.1;
        };
      }
