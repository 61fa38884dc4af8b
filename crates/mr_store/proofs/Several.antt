-- the items of which the index lists several versions
use Rattle.std.proofs.Common.{◌≡◌, Bool, true, false, cond, refl, sym, subst, List, [], ◌∷◌, map, inl, inr}
use Rattle.mr_store.proofs.Names.{AllByRecursion, AreRising, IsStrictlySortedBy, Less, Name, Vec, all_filtered, are_several, filter, head_before, is_listed}
use Rattle.mr_store.proofs.Names.{lookup, name_cmp, name_eq, option_map, option_map_or, rises-filter, same_names, tail_rises}
use Rattle.mr_store.proofs.RevisionLemmas.{either, unlisted_before}

module _ {Z : Type 0} where
  abbrev pub key_of : Name × Vec Name Z → Name
  key_of e = e.0

  -- those entries' items
  abbrev pub several : List (Name × Vec Name Z) → List Name
  several es = map key_of (filter (λ e. are_several e.1.items) es)

  pub several-rises : (es : List (Name × Vec Name Z)) → AreRising key_of es → IsStrictlySortedBy name_cmp (several es)
  several-rises es rising = rises-filter key_of (λ e. are_several e.1.items) es rising

  -- whether the item's entry lists several
  abbrev pub several_at : List (Name × Vec Name Z) → Name → Bool
  several_at es i = option_map_or are_several (option_map (λ versions. versions.items) (lookup (λ k. name_eq i k) es)) false

  pub is_listed-several : (es : List (Name × Vec Name Z)) → AreRising key_of es → (i : Name) → is_listed (several es) i ≡ several_at es i
  is_listed-several [] rising i = refl
  is_listed-several (e ∷ es) rising i =
      elim (either (name_eq i e.0)) [
        | inl same ↦
            let later : AllByRecursion (λ u. name_cmp i u ≡ Less) (several es) =
            subst (λ j. AllByRecursion (λ u. name_cmp j u ≡ Less) (several es)) (sym (same_names i e.0 same))
            (all_filtered key_of (λ u. name_cmp e.0 u ≡ Less) (λ e. are_several e.1.items) es (head_before key_of e es rising)) in
            rw same (elim (are_several e.1.items) as (λ b. is_listed (map key_of (cond b (e ∷ filter (λ e. are_several e.1.items) es) (filter (λ e. are_several e.1.items) es))) i ≡ b) [
              | true ↦ rw same refl
              | false ↦ unlisted_before i (several es) later
            ])
        | inr apart ↦ rw apart (elim (are_several e.1.items) as (λ b. is_listed (map key_of (cond b (e ∷ filter (λ e. are_several e.1.items) es) (filter (λ e. are_several e.1.items) es))) i ≡ several_at es i) [
          | true ↦ rw apart (is_listed-several es (tail_rises key_of e es rising) i)
          | false ↦ is_listed-several es (tail_rises key_of e es rising) i
        ])
      ]
