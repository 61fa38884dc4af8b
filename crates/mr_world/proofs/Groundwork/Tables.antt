-- What is open in a table once it has changed.
use Rattle.std.proofs.Common.{◌≡◌, ◌≢◌, refl, ◌∙◌, ℕ, ◌+◌, List, [], ◌∷◌, ◌++◌, ◌⊎◌, inl, inr, Option, Some, None, arith}
use Rattle.mr_world.proofs.Names.Lists.{option_map}
use Rattle.std.proofs.lemmas.Bool.Decides.{eqb_tells}
use Rattle.mr_world.proofs.Names.Sessions.{Numbered, Table, at, open_at, with_changed, with_closed, with_opened}
use Rattle.mr_session.proofs.TableLemmas.{at-changed, at-others}

module _ {T : Type 0} where
  -- one is closed
  pub closed_found : (table : Table T) (n m : ℕ) (k : T) → open_at (with_closed table n) m ≡ Some k → (n ≢ m) × (open_at table m ≡ Some k)
  closed_found table n m k e = elim (eqb_tells n m) [
    | inl is ↦ (let none : None ≡ Some k = rw is.0 at (at-others n table.open_ones m ∙ e) in absurd (cc))
    | inr differs ↦ (differs.1, rw differs.0 at (at-others n table.open_ones m ∙ e))
  ]

  -- one is changed
  pub changed_found : (table : Table T) (n : ℕ) (change : T → T) (m : ℕ) (k : T) → open_at (with_changed n change table) m ≡ Some k →
      ((n ≡ m) × (old : T) × (open_at table n ≡ Some old) × (change old ≡ k)) ⊎ ((n ≢ m) × (open_at table m ≡ Some k))
  changed_found table n change m k e = elim (eqb_tells n m) [
    | inl is ↦ (let found : option_map change (open_at table n) ≡ Some k = rw is.0 at (at-changed n change table.open_ones m ∙ e) in
        let old = mapped (open_at table n) found in inl (is.1, old.0, old.1, old.2))
    | inr differs ↦ inr (differs.1, rw differs.0 at (at-changed n change table.open_ones m ∙ e))
  ]
    where
      mapped : (o : Option T) → option_map change o ≡ Some k → (old : T) × (o ≡ Some old) × (change old ≡ k)
      mapped None found = absurd (cc)
      mapped (Some old) found = (old, refl, cc)

  -- one more is opened
  pub opened_found : (table : Table T) (value : T) (m : ℕ) (k : T) → open_at (with_opened table value) m ≡ Some k →
      ((table.opened + 1 ≡ m) × (value ≡ k)) ⊎ (open_at table m ≡ Some k)
  opened_found table value m k e = behind table.open_ones e
    where
      behind : (xs : List (Numbered T)) → at (xs ++ (record { number = table.opened + 1; value = value }) ∷ []) m ≡ Some k → ((table.opened + 1 ≡ m) × (value ≡ k)) ⊎ (at xs m ≡ Some k)
      behind [] e = elim (eqb_tells (table.opened + 1) m) [
        | inl is ↦ (let found : Some value ≡ Some k = rw is.0 at e in inl (is.1, cc))
        | inr differs ↦ (let none : (◌≡◌ {A = Option T} None (Some k)) = rw differs.0 at e in absurd (cc))
      ]
      behind (x ∷ xs) e = elim (eqb_tells x.number m) [
        | inl is ↦ inr (rw is.0 (rw is.0 at e))
        | inr differs ↦ elim (behind xs (rw differs.0 at e)) [ inl new ↦ inl new | inr old ↦ inr (rw differs.0 old) ]
      ]
