use Rattle.std.proofs.Common.{inl, inr, ◌≡◌, ◌<◌, ◌≤◌, ◌+◌, ℕ, true, false, nat_lt, ap, sym, ◌∙◌, arith, List, [], ◌∷◌, ◌++◌, length, get_or, suc, zero}
use Rattle.mr_concise.proofs.Names.{Extent, HasNoHoleFrom, Hole, IsColumn, IsHoleFrom, IsPartitionPoint, IsRising, cases_lt, column_has, hole_edges, is_on}
use Rattle.mr_concise.proofs.Names.{le-leb, lt-leb, ltb-false, ltb-true}
use Rattle.mr_concise.proofs.EdgeLemmas.{is_on-before, is_on-turn, is_on-stay, IsRising-end}
use Rattle.mr_concise.proofs.ColumnLemmas.{column_has-edges}

-- past a hole only what follows it counts
past-hole : (h : Hole) (ts : List ℕ) (c : ℕ) → h.first ≤ h.last → h.last < c → is_on true (h.first ∷ (h.last + 1) ∷ ts) c ≡ is_on true ts c
past-hole h ts c o l = is_on-turn true h.first ((h.last + 1) ∷ ts) c (omega arith) ∙ is_on-turn false (h.last + 1) ts c (omega arith)

hole_from-edges : (k u low : ℕ) (hs : List Hole) (i : ℕ) (x : Hole) → IsRising low (hole_edges hs ++ (u + 1) ∷ []) → ((j : ℕ) (d : Hole) → 0 ≤ j → j < i → nat_lt (get_or hs j d).last k ≡ true) → i < length hs → x ≡ get_or hs i x → k ≤ x.last → IsHoleFrom (is_on true (hole_edges hs ++ (u + 1) ∷ [])) u k x
hole_from-edges k u low [] i x r before l at ge = absurd (omega arith)
hole_from-edges k u low (h ∷ hs) zero x r before l at ge =
    let f : x.first ≡ h.first = ap (λ (z : Hole). z.first) at in
    let g : x.last ≡ h.last = ap (λ (z : Hole). z.last) at in
    let order : h.first ≤ h.last = let q = r.1.0 in omega arith in
    let rest : List ℕ = hole_edges hs ++ (u + 1) ∷ [] in
    record {
      reaches = ge;
      ordered = omega arith;
      from_one = let q = r.0 in omega arith;
      below = let e = IsRising-end (h.last + 1) (hole_edges hs) (u + 1) r.1.1 in omega arith;
      before = λ c a b. is_on-stay true h.first ((h.last + 1) ∷ (hole_edges hs ++ (u + 1) ∷ [])) c (omega arith);
      inside = λ c a b. is_on-turn true h.first ((h.last + 1) ∷ (hole_edges hs ++ (u + 1) ∷ [])) c (omega arith) ∙ is_on-stay false (h.last + 1) (hole_edges hs ++ (u + 1) ∷ []) c (omega arith);
      after = past-hole h (hole_edges hs ++ (u + 1) ∷ []) (x.last + 1) order (omega arith) ∙ is_on-before true (hole_edges hs ++ (u + 1) ∷ []) (h.last + 1) (x.last + 1) r.1.1 (omega arith);
    }
hole_from-edges k u low (h ∷ hs) (suc i) x r before l at ge =
    let past : h.last < k = ltb-true h.last k (before 0 h (omega arith) (omega arith)) in
    let order : h.first ≤ h.last = let q = r.1.0 in omega arith in
    let w = hole_from-edges k u (h.last + 1) hs i x r.1.1 (λ j d z b. before (suc j) d (omega arith) (omega arith)) (omega arith) at ge in
    let first : h.last + 1 ≤ x.first = first-above (h.last + 1) hs i x r.1.1 (omega arith) at in
    let wb = w.below in let wo = w.ordered in
    record {
      reaches = ge;
      ordered = w.ordered;
      from_one = w.from_one;
      below = w.below;
      before = λ c a b. past-hole h (hole_edges hs ++ (u + 1) ∷ []) c order (omega arith) ∙ w.before c a b;
      inside = λ c a b. past-hole h (hole_edges hs ++ (u + 1) ∷ []) c order (omega arith) ∙ w.inside c a b;
      after = past-hole h (hole_edges hs ++ (u + 1) ∷ []) (x.last + 1) order (omega arith) ∙ w.after;
    }
  where
    first-above : (low : ℕ) (hs : List Hole) (i : ℕ) (x : Hole) → IsRising low (hole_edges hs ++ (u + 1) ∷ []) → i < length hs → x ≡ get_or hs i x → low ≤ x.first
    first-above low [] i x r l at = absurd (omega arith)
    first-above low (h ∷ hs) zero x r l at = let f : x.first ≡ h.first = ap (λ (z : Hole). z.first) at in let q = r.0 in omega arith
    first-above low (h ∷ hs) (suc i) x r l at = let q = first-above (h.last + 1) hs i x r.1.1 (omega arith) at in let a = r.0 in let b = r.1.0 in omega arith

no_hole_from-edges : (k u low : ℕ) (hs : List Hole) (i : ℕ) → IsRising low (hole_edges hs ++ (u + 1) ∷ []) → ((j : ℕ) (d : Hole) → 0 ≤ j → j < i → nat_lt (get_or hs j d).last k ≡ true) → length hs ≤ i → HasNoHoleFrom (is_on true (hole_edges hs ++ (u + 1) ∷ [])) u k
no_hole_from-edges k u low [] i r before l c a = elim (cases_lt u c) [
  | inl gt ↦ is_on-turn true (u + 1) [] c (omega arith) ∙ sym (lt-leb c u gt)
  | inr le ↦ is_on-stay true (u + 1) [] c (omega arith) ∙ sym (le-leb c u le)
]
no_hole_from-edges k u low (h ∷ hs) zero r before l c a = absurd (omega arith)
no_hole_from-edges k u low (h ∷ hs) (suc i) r before l c a =
    let past : h.last < k = ltb-true h.last k (before 0 h (omega arith) (omega arith)) in
    past-hole h (hole_edges hs ++ (u + 1) ∷ []) c (let q = r.1.0 in omega arith) (omega arith) ∙ no_hole_from-edges k u (h.last + 1) hs i r.1.1 (λ j d z b. before (suc j) d (omega arith) (omega arith)) (omega arith) c a

-- the hole at the place
pub hole_from-some : (column : Extent) (k i : ℕ) (x : Hole) → IsColumn column → 1 ≤ k → IsPartitionPoint (λ h. nat_lt h.last k ≡ true) (λ h. nat_lt h.last k ≡ false) column.holes i → i < length column.holes → x ≡ get_or column.holes i x → IsHoleFrom (column_has column) column.upto k x
hole_from-some column k i x is from place l at =
    let ge : k ≤ x.last = ltb-false x.last k (rw (← at) at (place.1 i x (omega arith) l)) in
    let w = hole_from-edges k column.upto 0 column.holes i x is.apart place.0 l at ge in
    let one = w.from_one in let order = w.ordered in
    record {
      reaches = ge;
      ordered = w.ordered;
      from_one = w.from_one;
      below = w.below;
      before = λ c a b. column_has-edges column c is.apart (omega arith) ∙ w.before c a b;
      inside = λ c a b. column_has-edges column c is.apart (omega arith) ∙ w.inside c a b;
      after = column_has-edges column (x.last + 1) is.apart (omega arith) ∙ w.after;
    }

-- past the last hole
pub hole_from-none : (column : Extent) (k i : ℕ) → IsColumn column → 1 ≤ k → IsPartitionPoint (λ h. nat_lt h.last k ≡ true) (λ h. nat_lt h.last k ≡ false) column.holes i → length column.holes ≤ i → HasNoHoleFrom (column_has column) column.upto k
hole_from-none column k i is from place l c a = column_has-edges column c is.apart (omega arith) ∙ no_hole_from-edges k column.upto 0 column.holes i is.apart place.0 l c a
