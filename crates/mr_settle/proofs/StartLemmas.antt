-- Specifications of replicas that have ids of their own are not refused.
use Rattle.std.proofs.Common.{◌≡◌, ◌≢◌, refl, sym, ap, ◌∙◌, ◌==◌, ◌||◌, ◌↔◌, arith, ℕ, Bool, true, false, List, [], ◌∷◌, None, IsTrue, not, eqb-true}
use Rattle.mr_settle.proofs.Names.{All, All-cons, All-head, All-nil, All-tail, AllPairs-head, AllPairs-tail, AllZip, AreDistinct, HasGoodLimit, IsSpecOf}
use Rattle.mr_settle.proofs.Names.{Spec, State, eqb-false, has_bad_capacity, has_bad_limit, has_same_id, le-ltb, list_any, ne_eqb, share_id, spec_refusal}
use Rattle.std.proofs.lemmas.List.Kept.{AllPairs-cons}

limit_good : (spec : Spec) → HasGoodLimit spec → has_bad_limit spec ≡ false
limit_good spec h = grind (arith, ne_eqb, le-ltb)

none_bad : (ps : List Spec) → All HasGoodLimit ps → list_any has_bad_limit ps ≡ false
none_bad [] all = refl
none_bad (p ∷ ps) all = let first = limit_good p (All-head HasGoodLimit p ps all) in ap (λ (b : Bool). b || list_any has_bad_limit ps) first ∙ none_bad ps (All-tail HasGoodLimit p ps all)

module _ {K : Type 0} where
  no_other : (id : ℕ) (xs : List (State K)) (ps : List Spec) → AllZip IsSpecOf xs ps → All (λ z. id ≢ z.id) xs → list_any (λ other. other.id == id) ps ≡ false
  no_other id [] [] are all = refl
  no_other id [] (p ∷ ps) are all = absurd are
  no_other id (x ∷ xs) [] are all = absurd are
  no_other id (x ∷ xs) (p ∷ ps) are all =
      let ne = All-head (λ (z : State K). id ≢ z.id) x xs all in
      let first : (p.id == id) ≡ false = ne_eqb p.id id (λ e. ne (sym e ∙ are.0.id)) in
      rw first (no_other id xs ps are.1 (All-tail (λ (z : State K). id ≢ z.id) x xs all))

  none_same : (xs : List (State K)) (ps : List Spec) → AreDistinct xs → AllZip IsSpecOf xs ps → has_same_id ps ≡ false
  none_same [] [] distinct are = refl
  none_same [] (p ∷ ps) distinct are = absurd are
  none_same (x ∷ xs) [] distinct are = absurd are
  none_same (x ∷ xs) (p ∷ ps) distinct are =
      let none : list_any (λ other. other.id == x.id) ps ≡ false = no_other x.id xs ps are.1 (AllPairs-head (λ (a b : State K). a.id ≢ b.id) x xs distinct) in
      let rest = none_same xs ps (AllPairs-tail (λ (a b : State K). a.id ≢ b.id) x xs distinct) are.1 in
      ap (λ (i : ℕ). list_any (λ other. other.id == i) ps || has_same_id ps) are.0.id ∙ ap (λ (b : Bool). b || has_same_id ps) none ∙ rest

  none_small : (xs : List (State K)) (ps : List Spec) → AllZip IsSpecOf xs ps → list_any has_bad_capacity ps ≡ false
  none_small [] [] are = refl
  none_small [] (p ∷ ps) are = absurd are
  none_small (x ∷ xs) [] are = absurd are
  none_small (x ∷ xs) (p ∷ ps) are = grind (arith, none_small xs ps are.1)

  pub none_refused : (xs : List (State K)) (ps : List Spec) → AreDistinct xs → AllZip IsSpecOf xs ps → All HasGoodLimit ps → spec_refusal ps ≡ None
  none_refused xs ps distinct are limits = rw (none_same xs ps distinct are, none_bad ps limits, none_small xs ps are) refl

  -- ---- ids by a test

  none_has : (id : ℕ) (xs : List (State K)) → list_any (λ z. z.id == id) xs ≡ false → All (λ z. id ≢ z.id) xs
  none_has id [] h = All-nil (λ (z : State K). id ≢ z.id)
  none_has id (x ∷ xs) h = grind (arith, none_has id xs, All-cons, eqb-false)

  some_has : (id : ℕ) (xs : List (State K)) → list_any (λ z. z.id == id) xs ≡ true → All (λ z. id ≢ z.id) xs → ⊥
  some_has id [] h all = cc (h)
  some_has id (x ∷ xs) h all = by (x.id == id) refl h (λ e. some_has id xs e (All-tail (λ (z : State K). id ≢ z.id) x xs all))
    where
      by : (b : Bool) → (x.id == id) ≡ b → (b || list_any (λ z. z.id == id) xs) ≡ true → (list_any (λ z. z.id == id) xs ≡ true → ⊥) → ⊥
      by true is e rest = All-head (λ (z : State K). id ≢ z.id) x xs all (sym (eqb-true x.id id is))
      by false is e rest = rest e

  share_none : (xs : List (State K)) → share_id xs ≡ false → AreDistinct xs
  share_none [] h = λ i j d less within. absurd (omega (arith, within))
  share_none (x ∷ xs) h = by (list_any (λ z. z.id == x.id) xs) refl h (share_none xs)
    where
      by : (b : Bool) → list_any (λ z. z.id == x.id) xs ≡ b → (b || share_id xs) ≡ false → (share_id xs ≡ false → AreDistinct xs) → AreDistinct (x ∷ xs)
      by true is e rest = cc (e)
      by false is e rest = AllPairs-cons (λ (a b : State K). a.id ≢ b.id) x xs (none_has x.id xs is) (rest e)

  share_some : (xs : List (State K)) → share_id xs ≡ true → AreDistinct xs → ⊥
  share_some [] h distinct = cc (h)
  share_some (x ∷ xs) h distinct = by (list_any (λ z. z.id == x.id) xs) refl h (λ e. share_some xs e (AllPairs-tail (λ (a b : State K). a.id ≢ b.id) x xs distinct))
    where
      by : (b : Bool) → list_any (λ z. z.id == x.id) xs ≡ b → (b || share_id xs) ≡ true → (share_id xs ≡ true → ⊥) → ⊥
      by true is e rest = some_has x.id xs is (AllPairs-head (λ (a b : State K). a.id ≢ b.id) x xs distinct)
      by false is e rest = rest e

  pub distinct_by : (xs : List (State K)) (b : Bool) → b ≡ share_id xs → IsTrue (not b) ↔ AreDistinct xs
  distinct_by xs b is = grind (arith, share_some, share_none)
