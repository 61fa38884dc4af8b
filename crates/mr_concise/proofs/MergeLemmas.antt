use Rattle.std.proofs.Common.{inl, inr, ◌⊎◌, ◌≡◌, ◌<◌, ◌≤◌, ◌+◌, ◌-◌, ◌||◌, ℕ, Bool, true, false, nat_lt, refl, ap, sym, ◌∙◌, arith, List, [], ◌∷◌, ◌++◌}
use Rattle.mr_concise.proofs.Names.{Extent, HasNoHoleFrom, Hole, IsColumnOf, IsGapFrom, IsHoleFrom, IsRising, MAX_COUNTER, cases_eq, cases_lt, column_has}
use Rattle.mr_concise.proofs.Names.{edges, hole_edges, if◌then◌else◌, is_on, le-leb, le-ltb, lt-ltb, or_right, true≢false}
use Rattle.std.proofs.lemmas.Bool.{or_left}
use Rattle.mr_concise.proofs.ColumnLemmas.{column_has-edges}
use Rattle.mr_concise.proofs.LastLemmas.{column_has-above}
use Rattle.mr_concise.proofs.SweepLemmas.{extend}

-- what one of two columns has
abbrev pub has_one : Extent → Extent → ℕ → Bool
has_one a b c = column_has a c || column_has b c

-- How far two columns are put together: the holes found, and the counters below that they stand for. A hole that
-- begins there or later stands apart from them.
pub record Merged (has : ℕ → Bool) (holes : List Hole) (from : ℕ) : Type 0 where
  pub from_one : 1 ≤ from
  pub rising : (x : ℕ) → from ≤ x → has x ≡ false → IsRising 0 (hole_edges holes ++ x ∷ [])
  pub means : (x : ℕ) → from ≤ x → has x ≡ false → (c : ℕ) → 1 ≤ c → is_on true (hole_edges holes ++ x ∷ []) c ≡ (if nat_lt c from then has c else nat_lt c x)

test : (b : Bool) → (if b then true else false) ≡ b
test b = grind arith

-- no counter is below the first
pub Merged-begin : (has : ℕ → Bool) → Merged has [] 1
Merged-begin has = grind (arith, le-ltb, test)

-- what a step finds: from here on the set has all up to a gap, which may be empty, and goes on after it
pub record IsStep (has : ℕ → Bool) (from first last : ℕ) : Type 0 where
  pub reaches : from ≤ last
  pub above : from ≤ first
  pub before : (c : ℕ) → from ≤ c → c < first → has c ≡ true
  pub inside : (c : ℕ) → first ≤ c → c ≤ last → has c ≡ false
  pub after : has (last + 1) ≡ true

pub IsStep-of : (a b : Extent) (from first last : ℕ) (h gap : Hole) → a.upto ≤ MAX_COUNTER → IsHoleFrom (column_has a) a.upto from h → IsGapFrom (column_has b) from gap → ((gap.first ≤ first) × (h.first ≤ first)) × ((first ≤ gap.first) ⊎ (first ≤ h.first)) → ((last ≤ gap.last) × (last ≤ h.last)) × ((gap.last ≤ last) ⊎ (h.last ≤ last)) → IsStep (has_one a b) from first last
IsStep-of a b from first last h gap top hole is firsts lasts = record {
  reaches = go_reaches lasts.1;
  above = let up = is.begins.above in let l = firsts.0.0 in omega arith;
  before = λ c f l. go_before c f l firsts.1;
  inside = λ c f l. rw (hole.inside c (let x = firsts.0.1 in omega arith) (let y = lasts.0.1 in omega arith), is.inside c (let x = firsts.0.0 in omega arith) (let y = lasts.0.0 in omega arith)) refl;
  after = go_after lasts.1;
}
  where
    go_reaches : (gap.last ≤ last) ⊎ (h.last ≤ last) → from ≤ last
    go_reaches (inl l) = let up = is.begins.above in let o = is.ordered in omega arith
    go_reaches (inr l) = let r = hole.reaches in omega arith

    go_before : (c : ℕ) → from ≤ c → c < first → (first ≤ gap.first) ⊎ (first ≤ h.first) → has_one a b c ≡ true
    go_before c f l (inl at) = or_right (column_has a c) (column_has b c) (is.begins.between c f (omega arith))
    go_before c f l (inr at) = or_left (column_has a c) (column_has b c) (hole.before c f (omega arith))

    go_after : (gap.last ≤ last) ⊎ (h.last ≤ last) → has_one a b (last + 1) ≡ true
    go_after (inl l) = let e : last ≡ gap.last = let x = lasts.0.0 in omega arith in rw e (or_right (column_has a (gap.last + 1)) (column_has b (gap.last + 1)) (is.after (let x = lasts.0.1 in let y = hole.below in omega arith)))
    go_after (inr l) = let e : last ≡ h.last = let x = lasts.0.1 in omega arith in rw e (or_left (column_has a (h.last + 1)) (column_has b (h.last + 1)) hole.after)

-- a step that finds nothing
pub Merged-pass : (has : ℕ → Bool) (holes : List Hole) (from first last : ℕ) → Merged has holes from → IsStep has from first last → last < first → Merged has holes (last + 1)
Merged-pass has holes from first last w step empty = grind (arith, cases_lt, lt-ltb, le-ltb)

-- a step that finds a hole
pub Merged-push : (has : ℕ → Bool) (holes : List Hole) (from first last : ℕ) → Merged has holes from → IsStep has from first last → first ≤ last → Merged has (holes ++ (record { first = first; last = last }) ∷ []) (last + 1)
Merged-push has holes from first last w step some = record {
  from_one = omega arith;
  rising = λ x f out. rw back at (grown x f out).0;
  means = λ x f out c one. (rw back at (grown x f out).1) c ∙ go x f c one (cases_lt c (last + 1));
}
  where
    back : last + 1 - 1 ≡ last
    back = omega arith

    out_first : has first ≡ false
    out_first = step.inside first (omega arith) some

    past : (x : ℕ) → last + 1 ≤ x → has x ≡ false → last + 1 < x
    past x f out = elim (cases_eq (last + 1) x) [
      | inl e ↦ absurd (true≢false (sym step.after ∙ ap has e ∙ out))
      | inr n ↦ omega arith
    ]

    grown : (x : ℕ) → last + 1 ≤ x → has x ≡ false → IsRising 0 (hole_edges (holes ++ (record { first = first; last = last + 1 - 1 }) ∷ []) ++ x ∷ []) × ((c : ℕ) → is_on true (hole_edges (holes ++ (record { first = first; last = last + 1 - 1 }) ∷ []) ++ x ∷ []) c ≡ (if nat_lt c (last + 1) then is_on true (hole_edges holes ++ first ∷ []) c else nat_lt c x))
    grown x f out = extend 0 first (last + 1) x holes (w.rising first step.above out_first) (omega arith) (past x f out)

    found : (c : ℕ) → c < last + 1 → (c < from) ⊎ (from ≤ c) → (c < first) ⊎ (first ≤ c) → (if nat_lt c from then has c else nat_lt c first) ≡ has c
    found c l (inl b) q = rw (lt-ltb c from b) refl
    found c l (inr a) (inl u) = rw (le-ltb c from a, lt-ltb c first u) (sym (step.before c a u))
    found c l (inr a) (inr i) = rw (le-ltb c from a, le-ltb c first i) (sym (step.inside c i (omega arith)))

    go : (x : ℕ) → last + 1 ≤ x → (c : ℕ) → 1 ≤ c → (c < last + 1) ⊎ (last + 1 ≤ c) → (if nat_lt c (last + 1) then is_on true (hole_edges holes ++ first ∷ []) c else nat_lt c x) ≡ (if nat_lt c (last + 1) then has c else nat_lt c x)
    go x f c one (inl l) = rw (lt-ltb c (last + 1) l) (w.means first step.above out_first c one ∙ found c l (cases_lt c from) (cases_lt c first))
    go x f c one (inr g) = rw (le-ltb c (last + 1) g) refl

-- where the higher column has no hole any more, the holes are those of both
pub Merged-end : (a b : Extent) (holes : List Hole) (from : ℕ) → Merged (has_one a b) holes from → a.upto ≤ MAX_COUNTER → b.upto ≤ a.upto → from ≤ a.upto + 1 → HasNoHoleFrom (column_has a) a.upto from → IsColumnOf (has_one a b) (record { upto = a.upto; holes = holes })
Merged-end a b holes from w top low bound none = record {
  apart = rising;
  in_range = top;
  means = λ c. elim (cases_lt c 1) [
    | inl l ↦ let z : c ≡ 0 = omega arith in rw z refl
    | inr one ↦ column_has-edges (record { upto = a.upto; holes = holes }) c rising one ∙ w.means (a.upto + 1) bound (out (a.upto + 1) (omega arith)) c one ∙ go c (cases_lt c from) (cases_lt c (a.upto + 1))
  ];
}
  where
    out : (c : ℕ) → a.upto < c → has_one a b c ≡ false
    out c l = rw (column_has-above a c l, column_has-above b c (omega arith)) refl

    rising : IsRising 0 (edges (record { upto = a.upto; holes = holes }))
    rising = w.rising (a.upto + 1) bound (out (a.upto + 1) (omega arith))

    go : (c : ℕ) → (c < from) ⊎ (from ≤ c) → (c < a.upto + 1) ⊎ (a.upto + 1 ≤ c) → (if nat_lt c from then has_one a b c else nat_lt c (a.upto + 1)) ≡ has_one a b c
    go c (inl l) q = rw (lt-ltb c from l) refl
    go c (inr f) (inl u) = let le : c ≤ a.upto = omega arith in rw (le-ltb c from f, lt-ltb c (a.upto + 1) u) (sym (or_left (column_has a c) (column_has b c) (none c f ∙ le-leb c a.upto le)))
    go c (inr f) (inr g) = rw (le-ltb c from f, le-ltb c (a.upto + 1) g) (sym (out c (omega arith)))
