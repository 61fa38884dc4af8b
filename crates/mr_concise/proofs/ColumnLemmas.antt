use Rattle.std.proofs.Common.{inl, inr, ◌≡◌, ◌<◌, ◌≤◌, ◌+◌, ◌&&◌, ℕ, true, false, not, nat_le, refl, ap, sym, ◌∙◌, arith, List, [], ◌∷◌, ◌++◌}
use Rattle.mr_concise.proofs.Names.{Extent, Hole, IsRising, and_right, cases_lt, column_has, edges, hole_edges, hole_has, is_on, le-leb, list_any, lt-leb}
use Rattle.mr_concise.proofs.EdgeLemmas.{is_on-before, is_on-turn, is_on-stay, edges_unique, IsRising-end, IsRising-lower}

-- in the holes' own words: c is on where it is at most the bound and in no hole
is_on-holes : (upto low : ℕ) (holes : List Hole) (c : ℕ) → low < c → IsRising low (hole_edges holes ++ (upto + 1) ∷ []) → is_on true (hole_edges holes ++ (upto + 1) ∷ []) c ≡ (nat_le c upto && not (list_any (λ hole. hole_has hole c) holes))
is_on-holes upto low [] c l r = elim (cases_lt c (upto + 1)) [
  | inl below ↦ let le : c ≤ upto = omega arith in rw (is_on-stay true (upto + 1) [] c below, le-leb c upto le) refl
  | inr above ↦ let gt : upto < c = omega arith in rw (is_on-turn true (upto + 1) [] c above, lt-leb c upto gt) refl
]
is_on-holes upto low (hole ∷ holes) c l r = elim (cases_lt c hole.first) [
  | inl below ↦
      let end : hole.last + 1 < upto + 1 = IsRising-end (hole.last + 1) (hole_edges holes) (upto + 1) r.1.1 in
      let le : c ≤ upto = let q = r.1.0 in omega arith in
      let inner : not (list_any (λ h. hole_has h c) holes) ≡ true = not_any low (hole.last + 1) upto holes c l r.1.1 (let q = r.1.0 in omega arith) in
      rw (is_on-stay true hole.first ((hole.last + 1) ∷ (hole_edges holes ++ (upto + 1) ∷ [])) c below, le-leb c upto le, lt-leb hole.first c below) (sym inner)
  | inr above ↦ elim (cases_lt c (hole.last + 1)) [
    | inl inside ↦
        let le : c ≤ hole.last = omega arith in
        rw (is_on-turn true hole.first ((hole.last + 1) ∷ (hole_edges holes ++ (upto + 1) ∷ [])) c above, is_on-stay false (hole.last + 1) (hole_edges holes ++ (upto + 1) ∷ []) c inside, le-leb hole.first c above, le-leb c hole.last le) (sym (and_right (nat_le c upto) false refl))
    | inr past ↦
        let gt : hole.last < c = omega arith in
        rw (is_on-turn true hole.first ((hole.last + 1) ∷ (hole_edges holes ++ (upto + 1) ∷ [])) c above, is_on-turn false (hole.last + 1) (hole_edges holes ++ (upto + 1) ∷ []) c past, le-leb hole.first c above, lt-leb c hole.last gt) (is_on-holes upto hole.last holes c gt (IsRising-lower hole.last (hole.last + 1) (hole_edges holes ++ (upto + 1) ∷ []) (omega arith) r.1.1))
  ]
]
  where
    not_any : (low high upto : ℕ) (holes : List Hole) (c : ℕ) → low < c → IsRising high (hole_edges holes ++ (upto + 1) ∷ []) → c ≤ high → not (list_any (λ h. hole_has h c) holes) ≡ true
    not_any low high upto [] c l r h = refl
    not_any low high upto (k ∷ ks) c l r h = let gt : c < k.first = let q = r.0 in omega arith in rw (lt-leb k.first c gt) (not_any low (k.last + 1) upto ks c l r.1.1 (let q = r.1.0 in omega arith))

pub column_has-edges : (column : Extent) (c : ℕ) → IsRising 0 (edges column) → 1 ≤ c → column_has column c ≡ is_on true (edges column) c
column_has-edges column c r l = rw (le-leb 1 c l) (sym (is_on-holes column.upto 0 column.holes c (omega arith) r))

pub column_has-zero : (column : Extent) → column_has column 0 ≡ false
column_has-zero column = refl

-- the edges give the column back
edges-inj : (u v : ℕ) (gs hs : List Hole) → (hole_edges gs ++ (u + 1) ∷ []) ≡ (hole_edges hs ++ (v + 1) ∷ []) → (u ≡ v) × (gs ≡ hs)
edges-inj u v [] [] e = let h : u + 1 ≡ v + 1 = cc in (omega arith, refl)
edges-inj u v [] (h ∷ []) e = let q : [] ≡ ((h.last + 1) ∷ ((v + 1) ∷ [])) = cc in cc
edges-inj u v [] (h ∷ (k ∷ hs)) e = let q : [] ≡ ((h.last + 1) ∷ (k.first ∷ ((k.last + 1) ∷ (hole_edges hs ++ (v + 1) ∷ [])))) = cc in cc
edges-inj u v (g ∷ []) [] e = let q : ((g.last + 1) ∷ ((u + 1) ∷ [])) ≡ [] = cc in cc
edges-inj u v (g ∷ (k ∷ gs)) [] e = let q : ((g.last + 1) ∷ (k.first ∷ ((k.last + 1) ∷ (hole_edges gs ++ (u + 1) ∷ [])))) ≡ [] = cc in cc
edges-inj u v (g ∷ gs) (h ∷ hs) e = grind (arith, edges-inj u v gs hs)

-- ONE FORM: columns that have the same counters are the same
pub column_unique : (a b : Extent) → IsRising 0 (edges a) → IsRising 0 (edges b) → ((c : ℕ) → column_has a c ≡ column_has b c) → a ≡ b
column_unique a b ra rb h =
    let e = edges_unique true 0 0 (edges a) (edges b) ra rb (λ c. elim (cases_lt c 1) [
      | inl l ↦ is_on-before true (edges a) 0 c ra (omega arith) ∙ sym (is_on-before true (edges b) 0 c rb (omega arith))
      | inr g ↦ sym (column_has-edges a c ra g) ∙ h c ∙ column_has-edges b c rb g
    ]) in
    let p = edges-inj a.upto b.upto a.holes b.holes e in
    ap (λ (u : ℕ). record { upto = u; holes = a.holes }) p.0 ∙ ap (λ (hs : List Hole). record { upto = b.upto; holes = hs }) p.1
