use Rattle.std.proofs.Common.{inl, inr, ◌⊎◌, ◌≡◌, ◌<◌, ◌≤◌, ℕ, Bool, not, refl, sym, ◌∙◌, arith, List, [], ◌∷◌, ◌++◌, length}
use Rattle.mr_concise.proofs.Names.{IsRising, cases_lt, cases_order, false≢true, is_on, le-ltb, lt-ltb, true≢false}

pub not≢self : (b : Bool) → b ≡ not b → ⊥
not≢self b h = grind (arith, true≢false, false≢true)

pub IsRising-lower : (low high : ℕ) (ts : List ℕ) → low ≤ high → IsRising high ts → IsRising low ts
IsRising-lower low high [] h r = tt
IsRising-lower low high (t ∷ ts) h r = (omega arith, r.1)

-- up to low nothing has turned
pub is_on-before : (on : Bool) (ts : List ℕ) (low c : ℕ) → IsRising low ts → c ≤ low → is_on on ts c ≡ on
is_on-before on [] low c r h = refl
is_on-before on (t ∷ ts) low c r h = let below : c < t = omega arith in rw (lt-ltb c t below) refl

-- at its first edge it has turned
pub is_on-turn : (on : Bool) (t : ℕ) (ts : List ℕ) (c : ℕ) → t ≤ c → is_on on (t ∷ ts) c ≡ is_on (not on) ts c
is_on-turn on t ts c h = rw (le-ltb c t h) refl

pub is_on-stay : (on : Bool) (t : ℕ) (ts : List ℕ) (c : ℕ) → c < t → is_on on (t ∷ ts) c ≡ on
is_on-stay on t ts c h = rw (lt-ltb c t h) refl

-- at the first edge of a rising list it is not what it was
pub is_on-at_first : (on : Bool) (t : ℕ) (ts : List ℕ) → IsRising t ts → is_on on (t ∷ ts) t ≡ not on
is_on-at_first on t ts r = is_on-turn on t ts t (omega arith) ∙ is_on-before (not on) ts t t r (omega arith)

-- ONE FORM: rising edges that mean the same are the same
pub edges_unique : (on : Bool) (low high : ℕ) (a b : List ℕ) → IsRising low a → IsRising high b → ((c : ℕ) → is_on on a c ≡ is_on on b c) → a ≡ b
edges_unique on low high [] [] ra rb h = refl
edges_unique on low high [] (t ∷ b) ra rb h = absurd (not≢self on (h t ∙ is_on-at_first on t b rb.1))
edges_unique on low high (s ∷ a) [] ra rb h = absurd (not≢self on (sym (h s) ∙ is_on-at_first on s a ra.1))
edges_unique on low high (s ∷ a) (t ∷ b) ra rb h = heads (cases_order s t) (λ tails. edges_unique (not on) s t a b ra.1 rb.1 tails)
  where
    tails : (s ≡ t) → (c : ℕ) → is_on (not on) a c ≡ is_on (not on) b c
    tails e c = elim (cases_lt c s) [
      | inl l ↦ is_on-before (not on) a s c ra.1 (omega arith) ∙ sym (is_on-before (not on) b t c rb.1 (omega arith))
      | inr g ↦ sym (is_on-turn on s a c g) ∙ h c ∙ is_on-turn on t b c (omega arith)
    ]

    heads : (s ≡ t) ⊎ ((s < t) ⊎ (t < s)) → (((c : ℕ) → is_on (not on) a c ≡ is_on (not on) b c) → a ≡ b) → (s ∷ a) ≡ (t ∷ b)
    heads (inl e) rest = let r = rest (tails e) in cc
    heads (inr (inl l)) rest = absurd (not≢self on (sym (sym (is_on-at_first on s a ra.1) ∙ h s ∙ is_on-stay on t b s l)))
    heads (inr (inr g)) rest = absurd (not≢self on (sym (is_on-stay on s a t g) ∙ h t ∙ is_on-at_first on t b rb.1))

-- the last of rising edges is the highest
pub IsRising-end : (low : ℕ) (xs : List ℕ) (u : ℕ) → IsRising low (xs ++ u ∷ []) → low < u
IsRising-end low [] u r = r.0
IsRising-end low (x ∷ xs) u r = let h = IsRising-end x xs u r.1 in omega arith

-- edges up to one that is the last of them are fewer than those that mean the same up to there
pub edges_fewer : (on : Bool) (low high end : ℕ) (a b : List ℕ) → IsRising low (a ++ end ∷ []) → IsRising high b → ((c : ℕ) → c ≤ end → is_on on (a ++ end ∷ []) c ≡ is_on on b c) → length a < length b
edges_fewer on low high end [] [] ra rb h = absurd (not≢self on (sym (h end (omega arith)) ∙ is_on-at_first on end [] tt))
edges_fewer on low high end [] (t ∷ b) ra rb h = omega arith
edges_fewer on low high end (s ∷ a) [] ra rb h =
    let l : s < end = IsRising-end s a end ra.1 in
    absurd (not≢self on (sym (h s (omega arith)) ∙ is_on-at_first on s (a ++ end ∷ []) ra.1))
edges_fewer on low high end (s ∷ a) (t ∷ b) ra rb h =
    let rest = edges_fewer (not on) s t end a b ra.1 rb.1 (tails (heads (cases_order s t))) in
    omega arith
  where
    before : s < end
    before = IsRising-end s a end ra.1

    heads : (s ≡ t) ⊎ ((s < t) ⊎ (t < s)) → s ≡ t
    heads (inl e) = e
    heads (inr (inl l)) = absurd (not≢self on (sym (sym (is_on-at_first on s (a ++ end ∷ []) ra.1) ∙ h s (let e = before in omega arith) ∙ is_on-stay on t b s l)))
    heads (inr (inr g)) = absurd (not≢self on (sym (is_on-stay on s (a ++ end ∷ []) t g) ∙ h t (let e = before in omega arith) ∙ is_on-at_first on t b rb.1))

    tails : s ≡ t → (c : ℕ) → c ≤ end → is_on (not on) (a ++ end ∷ []) c ≡ is_on (not on) b c
    tails e c m = elim (cases_lt c s) [
      | inl l ↦ is_on-before (not on) (a ++ end ∷ []) s c ra.1 (omega arith) ∙ sym (is_on-before (not on) b t c rb.1 (omega arith))
      | inr g ↦ sym (is_on-turn on s (a ++ end ∷ []) c g) ∙ h c m ∙ is_on-turn on t b c (omega arith)
    ]
