-- What stands under a number is read off the keys of a slab, where no number stands twice.
use Rattle.std.proofs.Common.{◌≡◌, ◌≢◌, ◌⊎◌, ◌≤◌, ℕ, zero, suc, List, [], ◌∷◌, get_or, Option, Some, None, refl, sym, ap, ◌∙◌, inl, inr, arith}
use Rattle.mr_session.proofs.Names.{AreOnce, AreUpTo, Entry, HasNumber, Slab, Updates, cases_eq, eqb_tells, get, value_at, value_in, with_at}

module _ {T : Type 0} where
  -- a slot with the number's entry, that has this value
  abbrev pub HasValue : List (Option (Entry T)) → ℕ → T → Type 0
  HasValue slots n v = (key : ℕ) × (entry : Entry T) × (get_or slots key None ≡ Some entry) × (entry.number ≡ n) × (entry.value ≡ v)

  -- what is found stands in a slot
  pub has_found : (slots : List (Option (Entry T))) (n : ℕ) (v : T) → value_in slots n ≡ Some v → HasValue slots n v
  has_found [] n v found = absurd (cc)
  has_found (None ∷ slots) n v found = let later = has_found slots n v found in (suc later.0, later.1, later.2, later.3, later.4)
  has_found (Some entry ∷ slots) n v found =
      elim (eqb_tells entry.number n) [
        | inl same ↦ let here = rw same.0 at found in (zero, entry, refl, same.1, (let e : entry.value ≡ v = cc in e))
        | inr differs ↦ let later = has_found slots n v (rw differs.0 at found) in (suc later.0, later.1, later.2, later.3, later.4)
      ]

  -- what stands in a slot is found
  not_none : (slots : List (Option (Entry T))) (n key : ℕ) (entry : Entry T) → get_or slots key None ≡ Some entry → entry.number ≡ n → value_in slots n ≡ None → ⊥
  not_none [] n key entry there is none = absurd (cc)
  not_none (None ∷ slots) n zero entry there is none = absurd (cc)
  not_none (None ∷ slots) n (suc key) entry there is none = not_none slots n key entry there is none
  not_none (Some first ∷ slots) n zero entry there is none = grind (arith, eqb_tells)
  not_none (Some first ∷ slots) n (suc key) entry there is none = grind (arith, not_none slots n key entry there is, eqb_tells)

  -- what a slab has under a number: an entry with the value, or none
  abbrev pub IsUnder : Slab (Entry T) → ℕ → Option T → Type 0
  IsUnder s n None = (key : ℕ) → HasNumber s n key → ⊥
  IsUnder s n (Some v) = HasValue s.slots n v

  pub under : (s : Slab (Entry T)) (n : ℕ) → IsUnder s n (value_at s n)
  under s n = grind (arith, not_none, has_found)

  -- where no number stands twice there is only one such answer
  pub only : (s : Slab (Entry T)) (n : ℕ) (o : Option T) → AreOnce s → IsUnder s n o → value_at s n ≡ o
  only s n o once is = by_value (value_at s n) o (under s n) is
    where
      by_value : (p o : Option T) → IsUnder s n p → IsUnder s n o → p ≡ o
      by_value None None a b = refl
      by_value None (Some v) a b = absurd (a b.0 (b.1, b.2, b.3))
      by_value (Some v) None a b = absurd (b a.0 (a.1, a.2, a.3))
      by_value (Some v) (Some w) a b =
          let same : a.0 ≡ b.0 = once n a.0 b.0 (a.1, a.2, a.3) (b.1, b.2, b.3) in
          let there : get_or s.slots a.0 None ≡ Some b.1 = ap (λ (k : ℕ). get_or s.slots k None) same ∙ b.2 in
          let entries : a.1 ≡ b.1 = cc in
          let values : v ≡ w = sym a.4 ∙ (ap (λ (x : Entry T). x.value) entries ∙ b.4) in
          ap Some values

  -- what a slab keeps under its numbers, where a key lost its entry
  module _ (old new : Slab (Entry T)) (n at : ℕ) (has : HasNumber old n at) (once : AreOnce old) (updates : Updates old new at None) where
    -- an entry of the new slab was one of the old, under another key
    pub was_there : (m key : ℕ) → HasNumber new m key → HasNumber old m key × (key ≢ at)
    was_there m key is =
        let elsewhere : key ≢ at = λ same. let gone : get new key ≡ None = ap (get new) same ∙ updates.changed in cc in
        ((is.0, sym (updates.others key elsewhere) ∙ is.1, is.2), elsewhere)

    pub lifted_once : AreOnce new
    lifted_once m key other a b = once m key other (was_there m key a).0 (was_there m other b).0

    pub lifted_up_to : (last : ℕ) → AreUpTo old last → AreUpTo new last
    lifted_up_to last up m key a = up m key (was_there m key a).0

    lifted_at : (m : ℕ) → value_at new m ≡ with_at n None (value_at old) m
    lifted_at m =
        elim (eqb_tells n m) [
          | inl same ↦ rw same.0 (only new m None lifted_once (λ key a. let old_one = was_there m key a in old_one.1 (once m key at old_one.0 (has.0, has.1, has.2 ∙ same.1))))
          | inr differs ↦ rw differs.0 (only new m (value_at old m) lifted_once (kept m differs.1 (value_at old m) (under old m)))
        ]
      where
        kept : (m : ℕ) → n ≢ m → (o : Option T) → IsUnder old m o → IsUnder new m o
        kept m differs None a = λ key b. a key (was_there m key b).0
        kept m differs (Some v) a =
            let elsewhere : a.0 ≢ at = λ same. let here : get old a.0 ≡ Some has.0 = ap (get old) same ∙ has.1 in let e : has.0 ≡ a.1 = cc in differs (sym has.2 ∙ (ap (λ (x : Entry T). x.number) e ∙ a.3)) in
            (a.0, a.1, updates.others a.0 elsewhere ∙ a.2, a.3, a.4)

    pub lifted : value_at new ≡ with_at n None (value_at old)
    lifted = λ i m. lifted_at m i

  -- what a slab keeps under its numbers, where an entry came to a vacant key
  module _ (old new : Slab (Entry T)) (n at : ℕ) (v : T) (vacant : get old at ≡ None) (absent : value_at old n ≡ None) (once : AreOnce old) (updates : Updates old new at (Some (record { number = n; value = v }))) where
    -- an entry of the new slab is the one that came, or was one of the old
    was_or_is : (m key : ℕ) → HasNumber new m key → ((key ≡ at) × (n ≡ m)) ⊎ (HasNumber old m key × (key ≢ at))
    was_or_is m key is =
        elim (cases_eq key at) [
          | inl same ↦
              let new_one : Entry T = record { number = n; value = v } in
              let here : get new key ≡ Some new_one = ap (get new) same ∙ updates.changed in
              let e : new_one ≡ is.0 = cc in
              inl (same, ap (λ (x : Entry T). x.number) e ∙ is.2)
          | inr elsewhere ↦ inr ((is.0, sym (updates.others key elsewhere) ∙ is.1, is.2), elsewhere)
        ]

    none_old : (key : ℕ) → HasNumber old n key → ⊥
    none_old key is = not_none old.slots n key is.0 is.1 is.2 absent

    pub placed_once : AreOnce new
    placed_once m key other a b =
        elim (was_or_is m key a) [
          | inl here ↦ elim (was_or_is m other b) [
            | inl there ↦ here.0 ∙ sym there.0
            | inr there ↦ absurd (none_old other (there.0.0, there.0.1, there.0.2 ∙ sym here.1))
          ]
          | inr here ↦ elim (was_or_is m other b) [
            | inl there ↦ absurd (none_old key (here.0.0, here.0.1, here.0.2 ∙ sym there.1))
            | inr there ↦ once m key other here.0 there.0
          ]
        ]

    pub placed_up_to : (last : ℕ) → 1 ≤ n → n ≤ last → AreUpTo old last → AreUpTo new last
    placed_up_to last from to up m key a =
        elim (was_or_is m key a) [
          | inl here ↦ (omega (arith, here.1), omega (arith, here.1))
          | inr there ↦ up m key there.0
        ]

    placed_at : (m : ℕ) → value_at new m ≡ with_at n (Some v) (value_at old) m
    placed_at m =
        elim (eqb_tells n m) [
          | inl same ↦ rw same.0 (only new m (Some v) placed_once (at, record { number = n; value = v }, updates.changed, same.1, refl))
          | inr differs ↦ rw differs.0 (only new m (value_at old m) placed_once (kept m differs.1 (value_at old m) (under old m)))
        ]
      where
        kept : (m : ℕ) → n ≢ m → (o : Option T) → IsUnder old m o → IsUnder new m o
        kept m differs None a = λ key b. elim (was_or_is m key b) [ inl here ↦ differs here.1 | inr there ↦ a key there.0 ]
        kept m differs (Some w) a =
            let elsewhere : a.0 ≢ at = λ same. let here : get old a.0 ≡ None = ap (get old) same ∙ vacant in cc in
            (a.0, a.1, updates.others a.0 elsewhere ∙ a.2, a.3, a.4)

    pub placed : value_at new ≡ with_at n (Some v) (value_at old)
    placed = λ i m. placed_at m i

  -- what stands under the key of a number is what is under it
  pub found_at : (s : Slab (Entry T)) (n key : ℕ) (entry : Entry T) → AreOnce s → HasNumber s n key → get s key ≡ Some entry → value_at s n ≡ Some entry.value
  found_at s n key entry once has there =
      let same : has.0 ≡ entry = cc in
      only s n (Some entry.value) once (key, entry, there, sym (ap (λ (x : Entry T). x.number) same) ∙ has.2, refl)

  -- where no key has the number nothing is under it
  pub none_at : (s : Slab (Entry T)) (n : ℕ) → AreOnce s → ((key : ℕ) → HasNumber s n key → ⊥) → value_at s n ≡ None
  none_at s n once absent = only s n None once absent
