-- The numbers of a pool that grows.
use Rattle.std.proofs.Common.{◌≡◌, ◌≢◌, ◌≤◌, refl, sym, ap, subst, ◌∙◌, ◌+◌, ◌==◌, arith, ℕ, Bool, true, false, List, [], ◌∷◌, length, Option, Some, None, inl, inr, ◌⊎◌, eqb-true, eq-eqb}
use Rattle.mr_settle.proofs.Names.{Frame, Grew, In, KeepsUp, Numbering, Puts, Tells, begins_no_other, both_ways, bytes_eq, bytes_eq-Decides, is_none, ne_eqb}
use Rattle.mr_settle.proofs.Names.{no_numbers, none-some, numbered, same_Some}
use Rattle.mr_wire.specs.Grammar.{Spells}
use Rattle.mr_world.specs.Pool.{GivesFrame}

same_bytes : (a b : List ℕ) → (a ≡ b) ⊎ (a ≢ b)
same_bytes a b = by (bytes_eq a b) refl
  where
    by : (t : Bool) → bytes_eq a b ≡ t → (a ≡ b) ⊎ (a ≢ b)
    by true e = inl ((bytes_eq-Decides a b).0 e)
    by false e = inr (λ is. both_ways (bytes_eq a b) e ((bytes_eq-Decides a b).1 is))

module _ {A : Type 0} where
  -- ---- numbers

  pub numbered_within : (xs : List A) (n : ℕ) (x : A) → numbered xs n ≡ Some x → n ≤ length xs
  numbered_within [] n x e = absurd (none-some x e)
  numbered_within (y ∷ older) n x e = grind (arith, numbered_within older n x, eqb-true)

  -- an older number stays
  pub numbered_front : (y : A) (xs : List A) (n : ℕ) (x : A) → numbered xs n ≡ Some x → numbered (y ∷ xs) n ≡ Some x
  numbered_front y xs n x e = grind (arith, numbered_within, ne_eqb)

  pub numbered_newest : (x : A) (xs : List A) → numbered (x ∷ xs) (length (x ∷ xs)) ≡ Some x
  numbered_newest x xs = let is : (length (x ∷ xs) == length xs + 1) ≡ true = eq-eqb (length (x ∷ xs)) (length xs + 1) (omega arith) in rw is refl

  pub numbered_grew : (xs ys : List A) (n : ℕ) (x : A) → Grew xs ys → numbered xs n ≡ Some x → numbered ys n ≡ Some x
  numbered_grew xs ys n x h e = grind (arith, numbered_front)

  pub number_stays : (xs ys : List A) (n : ℕ) → Grew xs ys → is_none (numbered xs n) ≡ false → numbered ys n ≡ numbered xs n
  number_stays xs ys n grew there = grind (arith, numbered_grew)

  -- ---- spellings

  module _ (frame_of : A → Frame) (value_of : (x y : A) → frame_of x ≡ frame_of y → x ≡ y) where
    -- some bytes spell one thing
    pub one_spelled : (x y : A) (bytes : List ℕ) → Spells 2 (frame_of x) bytes → Spells 2 (frame_of y) bytes → x ≡ y
    one_spelled x y bytes h k = value_of x y (begins_no_other 2 2 (frame_of x) (frame_of y) bytes bytes [] [] h k refl).1

    pub nothing_told : Tells frame_of [] no_numbers
    nothing_told = record { found = λ bytes n e. absurd (none-some n e); all = λ x i. absurd i }

    -- where the newest is one more, the numbers tell of it too
    tells_more : (pool : List A) (x : A) (bytes : List ℕ) (old new : Numbering) → Tells frame_of pool old → Spells 2 (frame_of x) bytes
        → ((old bytes ≢ None) × (new ≡ old)) ⊎ Puts old bytes (length (x ∷ pool)) new → Tells frame_of (x ∷ pool) new
    tells_more pool x bytes old new tells spells (inl had) = record {
      found = λ other n e.
          let was = tells.found other n (sym (ap (λ (f : Numbering). f other) had.1) ∙ e) in
          (was.0, numbered_front x pool n was.0 was.1, was.2);
      all = all;
    }
      where
        all : (y : A) → In y (x ∷ pool) → (other : List ℕ) × Spells 2 (frame_of y) other × (new other ≢ None)
        all y (inl is) = (bytes, subst (λ (z : A). Spells 2 (frame_of z) bytes) is spells, λ none. had.0 (sym (ap (λ (f : Numbering). f bytes) had.1) ∙ none))
        all y (inr i) = let was = tells.all y i in (was.0, was.1, λ none. was.2 (sym (ap (λ (f : Numbering). f was.0) had.1) ∙ none))
    tells_more pool x bytes old new tells spells (inr puts) = record { found = found; all = all }
      where
        found : (other : List ℕ) (n : ℕ) → new other ≡ Some n → (y : A) × (numbered (x ∷ pool) n ≡ Some y) × Spells 2 (frame_of y) other
        found other n e = elim (same_bytes other bytes) [
          | inl is ↦ (
              let number : n ≡ length (x ∷ pool) = same_Some n (length (x ∷ pool)) (sym e ∙ ap new is ∙ puts.is) in
              (x, ap (numbered (x ∷ pool)) number ∙ numbered_newest x pool, subst (Spells 2 (frame_of x)) (sym is) spells))
          | inr ne ↦ (
              let was = tells.found other n (sym (puts.others other ne) ∙ e) in
              (was.0, numbered_front x pool n was.0 was.1, was.2))
        ]

        all : (y : A) → In y (x ∷ pool) → (other : List ℕ) × Spells 2 (frame_of y) other × (new other ≢ None)
        all y (inl is) = (bytes, subst (λ (z : A). Spells 2 (frame_of z) bytes) is spells, λ none. none-some (length (x ∷ pool)) (sym none ∙ puts.is))
        all y (inr i) =
            let was = tells.all y i in (
              was.0,
              was.1,
              λ none. elim (same_bytes was.0 bytes) [
                | inl is ↦ none-some (length (x ∷ pool)) (sym none ∙ ap new is ∙ puts.is)
                | inr ne ↦ was.2 (sym (puts.others was.0 ne) ∙ none)
              ],
            )

    -- where the newest was told already, nothing changes what is told
    tells_again : (pool : List A) (x : A) (bytes : List ℕ) (old new : Numbering) → Tells frame_of pool old → numbered pool (length pool) ≡ Some x → Spells 2 (frame_of x) bytes
        → ((old bytes ≢ None) × (new ≡ old)) ⊎ Puts old bytes (length pool) new → Tells frame_of pool new
    tells_again pool x bytes old new tells is spells (inl had) = subst (Tells frame_of pool) (sym had.1) tells
    tells_again pool x bytes old new tells newest spells (inr puts) = record { found = found; all = all }
      where
        found : (other : List ℕ) (n : ℕ) → new other ≡ Some n → (y : A) × (numbered pool n ≡ Some y) × Spells 2 (frame_of y) other
        found other n e = elim (same_bytes other bytes) [
          | inl is ↦ (
              let number : n ≡ length pool = same_Some n (length pool) (sym e ∙ ap new is ∙ puts.is) in
              (x, ap (numbered pool) number ∙ newest, subst (Spells 2 (frame_of x)) (sym is) spells))
          | inr ne ↦ tells.found other n (sym (puts.others other ne) ∙ e)
        ]

        all : (y : A) → In y pool → (other : List ℕ) × Spells 2 (frame_of y) other × (new other ≢ None)
        all y i =
            let was = tells.all y i in (
              was.0,
              was.1,
              λ none. elim (same_bytes was.0 bytes) [
                | inl is ↦ none-some (length pool) (sym none ∙ ap new is ∙ puts.is)
                | inr ne ↦ was.2 (sym (puts.others was.0 ne) ∙ none)
              ],
            )

    -- the numbers tell of a pool that grew, once they have kept up with its newest
    pub tells_on : (pool grown : List A) (newest : Option (List ℕ)) (old new : Numbering) → Tells frame_of pool old → Grew pool grown
        → GivesFrame frame_of (numbered grown (length grown)) newest → KeepsUp old newest (length grown) new → Tells frame_of grown new
    tells_on pool grown newest old new tells (inr more) gives keeps = on_more newest gives keeps
      where
        on_more : (newest : Option (List ℕ)) → GivesFrame frame_of (numbered grown (length grown)) newest → KeepsUp old newest (length grown) new → Tells frame_of grown new
        on_more None gives keeps = absurd (subst (λ (o : Option A). GivesFrame frame_of o None) (ap (λ (xs : List A). numbered xs (length xs)) more.1 ∙ numbered_newest more.0 pool) gives)
        on_more (Some bytes) gives keeps =
            let spells = subst (λ (o : Option A). GivesFrame frame_of o (Some bytes)) (ap (λ (xs : List A). numbered xs (length xs)) more.1 ∙ numbered_newest more.0 pool) gives in
            subst (λ (xs : List A). Tells frame_of xs new) (sym more.1) (tells_more pool more.0 bytes old new tells spells (subst (λ (xs : List A). ((old bytes ≢ None) × (new ≡ old)) ⊎ Puts old bytes (length xs) new) more.1 keeps))
    tells_on pool grown newest old new tells (inl same) gives keeps = subst (λ (xs : List A). Tells frame_of xs new) (sym same) (on_same newest (subst (λ (xs : List A). GivesFrame frame_of (numbered xs (length xs)) newest) same gives) (subst (λ (xs : List A). KeepsUp old newest (length xs) new) same keeps))
      where
        on_same : (newest : Option (List ℕ)) → GivesFrame frame_of (numbered pool (length pool)) newest → KeepsUp old newest (length pool) new → Tells frame_of pool new
        on_same None gives keeps = subst (Tells frame_of pool) (sym keeps) tells
        on_same (Some bytes) gives keeps = by (numbered pool (length pool)) refl gives
          where
            by : (o : Option A) → numbered pool (length pool) ≡ o → GivesFrame frame_of o (Some bytes) → Tells frame_of pool new
            by None is gives = absurd gives
            by (Some x) is gives = tells_again pool x bytes old new tells is gives keeps
