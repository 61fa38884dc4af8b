-- What is told of an item: it leaves the meaning as it is, in columns with as few holes as any.
use Rattle.std.proofs.Common.{◌≡◌, ◌<◌, ◌≤◌, ◌+◌, ◌↔◌, ◌&&◌, ◌⊎◌, ℕ, zero, suc, Bool, true, false, not, nat_le, length, refl, ap, sym, ◌∙◌, arith, inl, inr}
use Rattle.mr_itemset.proofs.Names.{AreTold, Extent, HasFewestHoles, IsRising, IsTold, IsToldOfAuthor, Name, Versions, add-suc, add-zero, add_comm, and_from}
use Rattle.mr_itemset.proofs.Names.{and_left, and_parts, cases_Bool, cases_eq, cases_lt, column_has, column_has-above, edges, false_from_ne_true, false≢true}
use Rattle.mr_itemset.proofs.Names.{holes_among, is_beyond, le-leb, leb-true, not-true, not_from_false, of_author, same_from_decides}
use Rattle.mr_itemset.proofs.HolesLemmas.{holes_counted}

-- ---- the meaning

pub beyond_parts : (all own : ℕ → Bool) (c : ℕ) → is_beyond all own c ≡ true → (own c ≡ true) × (all c ≡ false)
beyond_parts all own c is = let both = and_parts (own c) (not (all c)) is in (both.0, not-true (all c) both.1)

pub beyond_from : (all own : ℕ → Bool) (c : ℕ) → own c ≡ true → all c ≡ false → is_beyond all own c ≡ true
beyond_from all own c has lacks = and_from (own c) (not (all c)) has (not_from_false (all c) lacks)

-- the item has what is told
pub told_within : (all own : ℕ → Bool) (c : ℕ) → IsTold all own c → own c ≡ true
told_within all own c told = told.has c told.above told.below

-- what not all items have is told
pub told_beyond : (all own : ℕ → Bool) (c : ℕ) → is_beyond all own c ≡ true → IsTold all own c
told_beyond all own c beyond = grind (arith, beyond_parts)

-- just one set is told
pub told_unique : (all own a b : Versions) → AreTold all own a → AreTold all own b → a ≡ b
told_unique all own a b of_a of_b = λ t v. same_from_decides {P = IsToldOfAuthor all own v.author v.counter} (a v) (b v) (of_a v) (of_b v) t

-- beside what all items have, what is told says just what the item has
pub told_same : (all own told : Versions) → AreTold all own told → (v : Name) → all v ≡ false → told v ≡ own v
told_same all own told are v lacks = grind (arith, cases_Bool, told_beyond, beyond_from, false≢true, told_within)

-- ---- how holes are counted

abbrev starts : (ℕ → Bool) → ℕ → Bool
starts has n = has (suc n) && (nat_le 1 n && not (has n))

one_more : (has : ℕ → Bool) (n : ℕ) → starts has n ≡ true → holes_among has (suc n) ≡ suc (holes_among has n)
one_more has n start = rw start refl

no_more : (has : ℕ → Bool) (n : ℕ) → starts has n ≡ false → holes_among has (suc n) ≡ holes_among has n
no_more has n none = rw none refl

-- the steps, over plain numbers
from_more : (a c : ℕ) → c ≡ suc a → a ≤ c
from_more a c e = omega arith

from_same : (a c : ℕ) → c ≡ a → a ≤ c
from_same a c e = omega arith

both_more : (a b c d : ℕ) → a ≤ b → c ≡ suc a → d ≡ suc b → c ≤ d
both_more a b c d le e f = omega arith

one_less : (a b c d : ℕ) → suc a ≤ b → c ≡ suc a → b ≤ d → c ≤ d
one_less a b c d le e f = omega arith

same_first : (a b c d : ℕ) → a ≤ b → c ≡ a → b ≤ d → c ≤ d
same_first a b c d le e f = omega arith

more_second : (a b c d : ℕ) → a ≤ b → c ≡ a → d ≡ suc b → suc c ≤ d
more_second a b c d le e f = omega arith

still_less : (a b c d : ℕ) → suc a ≤ b → c ≡ a → b ≤ d → suc c ≤ d
still_less a b c d le e f = omega arith

both_ends : (a b c d : ℕ) → a ≤ b → a ≡ c → b ≡ d → c ≤ d
both_ends a b c d le e f = omega arith

grows : (has : ℕ → Bool) (n : ℕ) → holes_among has n ≤ holes_among has (suc n)
grows has n = grind (arith, cases_Bool, from_more, one_more, from_same, no_more)

start_parts : (has : ℕ → Bool) (n : ℕ) → starts has n ≡ true → (has (suc n) ≡ true) × ((1 ≤ n) × (has n ≡ false))
start_parts has n start = grind (arith, and_parts, nat_le, leb-true, not-true)

start_from : (has : ℕ → Bool) (n : ℕ) → has (suc n) ≡ true → 1 ≤ n → has n ≡ false → starts has n ≡ true
start_from has n next one here = rw (next, le-leb 1 n one, here) refl

-- past a column's bound no hole ends
whole_column : (column : Extent) → IsRising 0 (edges column) → (d : ℕ) → holes_among (column_has column) (column.upto + d) ≡ length column.holes
whole_column column apart zero = ap (holes_among (column_has column)) (add-zero column.upto) ∙ holes_counted column apart
whole_column column apart (suc d) =
    let out : column_has column (suc (column.upto + d)) ≡ false = column_has-above column (suc (column.upto + d)) (omega arith) in
    ap (holes_among (column_has column)) (add-suc column.upto d)
    ∙ no_more (column_has column) (column.upto + d) (and_left (column_has column (suc (column.upto + d))) (nat_le 1 (column.upto + d) && not (column_has column (column.upto + d))) out)
    ∙ whole_column column apart d

-- ---- what is told has no more holes than any set that says enough

-- the item has all from such a counter up to here as what is told may begin with
record Reached (all own : ℕ → Bool) (n : ℕ) : Type 0 where
  first : ℕ
  low : (first ≤ n) ⊎ (first ≡ 1)
  begins : (first ≡ 1) ⊎ (is_beyond all own first ≡ true)
  has : (c : ℕ) → first ≤ c → c ≤ n → own c ≡ true

-- or it lacks a counter, and has none since that not all items have
record Broken (all own : ℕ → Bool) (n : ℕ) : Type 0 where
  at : ℕ
  one : 1 ≤ at
  up : at ≤ n
  out : own at ≡ false
  none : (c : ℕ) → at < c → c ≤ n → is_beyond all own c ≡ false

stands : (all own : ℕ → Bool) (n : ℕ) → Reached all own n ⊎ Broken all own n
stands all own zero = inl (record { first = 1; low = inr refl; begins = inl refl; has = λ c from to. absurd (omega arith) })
stands all own (suc n) = go (cases_Bool (own (suc n))) (cases_Bool (is_beyond all own (suc n))) (stands all own n)
  where
    lower : (f : ℕ) → (f ≤ n) ⊎ (f ≡ 1) → (f ≤ suc n) ⊎ (f ≡ 1)
    lower f (inl le) = inl (omega arith)
    lower f (inr one) = inr one

    go : (own (suc n) ≡ true) ⊎ (own (suc n) ≡ false) → (is_beyond all own (suc n) ≡ true) ⊎ (is_beyond all own (suc n) ≡ false) → Reached all own n ⊎ Broken all own n → Reached all own (suc n) ⊎ Broken all own (suc n)
    go (inr out) b s = inr (record { at = suc n; one = omega arith; up = omega arith; out = out; none = λ c from to. absurd (omega arith) })
    go (inl has) (inl beyond) s = inl (record { first = suc n; low = inl (omega arith); begins = inr beyond; has = λ c from to. let same : c ≡ suc n = omega arith in rw same has })
    go (inl has) (inr not_beyond) (inl r) = inl (record {
      first = r.first;
      low = lower r.first r.low;
      begins = r.begins;
      has = λ c from to. elim (cases_eq c (suc n)) [
        | inl same ↦ rw same has
        | inr other ↦ r.has c from (omega arith)
      ];
    })
    go (inl has) (inr not_beyond) (inr b) =
        let one = b.one in
        let up = b.up in
        inr (record {
          at = b.at;
          one = one;
          up = omega arith;
          out = b.out;
          none = λ c from to. elim (cases_eq c (suc n)) [
            | inl same ↦ rw same not_beyond
            | inr other ↦ b.none c from (omega arith)
          ];
        })

module _ (all own told set : ℕ → Bool) (are : (c : ℕ) → (told c ≡ true) ↔ IsTold all own c) (says : (c : ℕ) → own c ≡ true → all c ≡ false → set c ≡ true) (true_of : (c : ℕ) → set c ≡ true → own c ≡ true) where
  -- behind a counter that is not told the first one that is told again is one that not all items have, and the item lacked
  -- another since the last such one
  begun : (n : ℕ) → starts told n ≡ true → (is_beyond all own (suc n) ≡ true) × Broken all own n
  begun n start =
      let parts = start_parts told n start in
      let one : 1 ≤ n = parts.1.0 in
      let stretch : IsTold all own (suc n) = (are (suc n)).0 parts.0 in
      let beyond : is_beyond all own (suc n) ≡ true = first_beyond one parts.1.1 stretch in
      (beyond, broken one parts.1.1 beyond (stands all own n))
    where
      untold : told n ≡ false → IsTold all own n → ⊥
      untold out is = false≢true (sym out ∙ (are n).1 is)

      first_beyond : 1 ≤ n → told n ≡ false → IsTold all own (suc n) → is_beyond all own (suc n) ≡ true
      first_beyond one out s =
          let above = s.above in
          let below = s.below in
          elim (cases_lt s.first (suc n)) [
            | inl before ↦ absurd (untold out (record { first = s.first; last = s.last; above = omega arith; below = omega arith; begins = s.begins; ends = s.ends; has = s.has }))
            | inr here ↦
                let same : s.first ≡ suc n = omega arith in
                elim s.begins [
                  | inl first ↦ absurd (omega arith)
                  | inr beyond ↦ rw (← same) beyond
                ]
          ]

      broken : 1 ≤ n → told n ≡ false → is_beyond all own (suc n) ≡ true → Reached all own n ⊎ Broken all own n → Broken all own n
      broken one out beyond (inr b) = b
      broken one out beyond (inl r) =
          let low : r.first ≤ n = elim r.low [ inl le ↦ le | inr first ↦ omega arith ] in
          absurd (untold out (record {
            first = r.first;
            last = suc n;
            above = low;
            below = omega arith;
            begins = r.begins;
            ends = beyond;
            has = λ c from to. elim (cases_eq c (suc n)) [
              | inl same ↦ rw same (beyond_parts all own (suc n) beyond).0
              | inr other ↦ r.has c from (omega arith)
            ];
          }))

  out_of : (c : ℕ) → own c ≡ false → set c ≡ false
  out_of c out = false_from_ne_true (set c) (λ has. false≢true (sym out ∙ true_of c has))

  record Fewer (n : ℕ) : Type 0 where
    le : holes_among told n ≤ holes_among set n
    since : Broken all own n → (set n ≡ false) ⊎ (suc (holes_among told n) ≤ holes_among set n)

  abbrev t : ℕ → ℕ
  t n = holes_among told n

  abbrev s : ℕ → ℕ
  s n = holes_among set n

  -- where one more is told, one more begins in the set
  fewer_start : (n : ℕ) → starts told n ≡ true → Fewer n → holes_among told (suc n) ≤ holes_among set (suc n)
  fewer_start n start f =
      let b = begun n start in
      let beyond = beyond_parts all own (suc n) b.0 in
      elim (f.since b.1) [
        | inl out ↦ both_more (t n) (s n) (t (suc n)) (s (suc n)) f.le (one_more told n start) (one_more set n (start_from set n (says (suc n) beyond.0 beyond.1) (start_parts told n start).1.0 out))
        | inr less ↦ one_less (t n) (s n) (t (suc n)) (s (suc n)) less (one_more told n start) (grows set n)
      ]

  not_started : (n : ℕ) → is_beyond all own (suc n) ≡ false → starts told n ≡ false
  not_started n none = false_from_ne_true (starts told n) (λ start. false≢true (sym none ∙ (begun n start).0))

  still_broken : (n : ℕ) → Fewer n → set (suc n) ≡ true → (b : Broken all own (suc n)) → b.at ≤ n → suc (holes_among told (suc n)) ≤ holes_among set (suc n)
  still_broken n f has b low = grind (arith, no_more, not_started, more_second, one_more, start_from, still_less, grows)

  fewer_since : (n : ℕ) → Fewer n → Broken all own (suc n) → (set (suc n) ≡ false) ⊎ (suc (holes_among told (suc n)) ≤ holes_among set (suc n))
  fewer_since n f b = go (cases_Bool (set (suc n))) (cases_eq b.at (suc n))
    where
      go : (set (suc n) ≡ true) ⊎ (set (suc n) ≡ false) → (b.at ≡ suc n) ⊎ (b.at ≡ suc n → ⊥) → (set (suc n) ≡ false) ⊎ (suc (holes_among told (suc n)) ≤ holes_among set (suc n))
      go (inr out) e = inl out
      go (inl has) (inl same) = absurd (false≢true (sym b.out ∙ ap own same ∙ true_of (suc n) has))
      go (inl has) (inr other) = let up = b.up in inr (still_broken n f has b (omega arith))

  fewer : (n : ℕ) → Fewer n
  fewer zero = record { le = omega arith; since = λ b. let one = b.one in let up = b.up in absurd (omega arith) }
  fewer (suc n) =
      let f = fewer n in
      record {
        le = elim (cases_Bool (starts told n)) [
          | inl start ↦ fewer_start n start f
          | inr none ↦ same_first (t n) (s n) (t (suc n)) (s (suc n)) f.le (no_more told n none) (grows set n)
        ];
        since = fewer_since n f;
      }

  -- SO NO COLUMN that says enough has fewer holes than the told one
  pub fewest : (a b : Extent) → IsRising 0 (edges a) → IsRising 0 (edges b) → ((c : ℕ) → column_has a c ≡ told c) → ((c : ℕ) → column_has b c ≡ set c) → length a.holes ≤ length b.holes
  fewest a b of_a of_b is_told is_set =
      let counted_a : t (a.upto + b.upto) ≡ length a.holes = ap (λ (has : ℕ → Bool). holes_among has (a.upto + b.upto)) (λ i c. sym (is_told c) i) ∙ whole_column a of_a b.upto in
      let counted_b : s (a.upto + b.upto) ≡ length b.holes = ap (holes_among set) (add_comm a.upto b.upto) ∙ ap (λ (has : ℕ → Bool). holes_among has (b.upto + a.upto)) (λ i c. sym (is_set c) i) ∙ whole_column b of_b a.upto in
      both_ends (t (a.upto + b.upto)) (s (a.upto + b.upto)) (length a.holes) (length b.holes) (fewer (a.upto + b.upto)).le counted_a counted_b

-- no set that says enough has fewer
pub has_fewest : (all own told : Versions) → AreTold all own told → HasFewestHoles all own told
has_fewest all own told are set enough author holes has column is =
    let le : length column.holes ≤ length has.column.holes = fewest (of_author all author) (of_author own author) (of_author told author) (of_author set author)
    (λ c. are (record { author = author; counter = c }))
    (λ c. enough.says (record { author = author; counter = c }))
    (λ c. enough.true_of (record { author = author; counter = c }))
    column has.column is.apart has.is.apart is.means has.is.means in
    let count = has.count_is in
    omega arith
