-- A column as it has to be has as many holes as its counters say.
use Rattle.std.proofs.Common.{◌≡◌, ◌<◌, ◌≤◌, ◌+◌, ◌&&◌, ◌⊎◌, Bool, false, not, if◌then◌else◌, ℕ, zero, suc, nat_le, nat_lt, List, [], ◌∷◌, ◌++◌, length, refl, ap, sym, ◌∙◌, arith, inl, inr}
use Rattle.mr_itemset.proofs.Names.{Extent, Hole, IsRising, IsRising-end, cases_lt, column_has, edges, hole_edges, hole_has, holes_among, le-leb, le-ltb}
use Rattle.mr_itemset.proofs.Names.{list_any, lt-leb, lt-ltb}

abbrev in_holes : List Hole → ℕ → Bool
in_holes holes c = list_any (λ hole. hole_has hole c) holes

-- how many of the holes end below n
abbrev ended : ℕ → List Hole → ℕ
ended n [] = 0
ended n (h ∷ hs) = if nat_lt h.last n then suc (ended n hs) else ended n hs

-- up to low there is no hole
none_before : (low e c : ℕ) (hs : List Hole) → IsRising low (hole_edges hs ++ e ∷ []) → c ≤ low → in_holes hs c ≡ false
none_before low e c [] r le = refl
none_before low e c (h ∷ hs) r le =
    let first = r.0 in
    let last = r.1.0 in
    let out : c < h.first = omega arith in
    rw (lt-leb h.first c out) (none_before (h.last + 1) e c hs r.1.1 (omega arith))

none_ended : (low e n : ℕ) (hs : List Hole) → IsRising low (hole_edges hs ++ e ∷ []) → n ≤ low → ended n hs ≡ 0
none_ended low e n [] r le = refl
none_ended low e n (h ∷ hs) r le =
    let first = r.0 in
    let last = r.1.0 in
    let later : n ≤ h.last = omega arith in
    rw (le-ltb h.last n later) (none_ended (h.last + 1) e n hs r.1.1 (omega arith))

-- all end below the last edge
all_ended : (low upto : ℕ) (hs : List Hole) → IsRising low (hole_edges hs ++ (upto + 1) ∷ []) → ended upto hs ≡ length hs
all_ended low upto [] r = refl
all_ended low upto (h ∷ hs) r =
    let end = IsRising-end (h.last + 1) (hole_edges hs) (upto + 1) r.1.1 in
    let before : h.last < upto = omega arith in
    rw (lt-ltb h.last upto before) (ap (λ (n : ℕ). suc n) (all_ended (h.last + 1) upto hs r.1.1))

if-none : (b : Bool) (n : ℕ) → (if b && false then suc n else n) ≡ n
if-none b n = grind arith

if-suc : (b : Bool) (n : ℕ) → (if b then suc (suc n) else suc n) ≡ suc (if b then suc n else n)
if-suc b n = grind arith

-- Whether one counter more ends a hole: it is in none, and the one before it is in one.
abbrev OneMore : ℕ → List Hole → Type 0
OneMore n hs = (if not (in_holes hs (suc n)) && in_holes hs n then suc (ended n hs) else ended n hs) ≡ ended (suc n) hs

-- where the counter stands to the first hole
module _ (e n : ℕ) (h : Hole) (hs : List Hole) (ordered : h.first < h.last + 1) (rest : IsRising (h.last + 1) (hole_edges hs ++ e ∷ [])) where
  one_before : n < h.first → OneMore n (h ∷ hs)
  one_before below = grind (arith, lt-leb, none_before, le-ltb, none_ended, if-none)

  one_inside : h.first ≤ n → n < h.last → OneMore n (h ∷ hs)
  one_inside from inside = grind (arith, le-leb, le-ltb, none_ended)

  -- from its last counter on, the next counter is past it
  one_over : h.first ≤ n → h.last ≤ n → (if not (in_holes hs (suc n)) && in_holes (h ∷ hs) n then suc (ended n (h ∷ hs)) else ended n (h ∷ hs)) ≡ suc (ended (suc n) hs) → OneMore n (h ∷ hs)
  one_over from to more = grind (arith, le-leb, lt-leb, lt-ltb)

  one_at : h.first ≤ n → h.last ≤ n → n ≤ h.last → OneMore n (h ∷ hs)
  one_at from to at = grind (arith, one_over, le-leb, le-ltb, none_before, none_ended)

  one_past : h.last < n → OneMore n hs → OneMore n (h ∷ hs)
  one_past past more = grind (arith, one_over, le-leb, lt-leb, lt-ltb, if-suc)

one_more : (low e n : ℕ) (hs : List Hole) → IsRising low (hole_edges hs ++ e ∷ []) → OneMore n hs
one_more low e n [] r = refl
one_more low e n (h ∷ hs) r = go (cases_lt n h.first) (cases_lt n h.last) (cases_lt h.last n) (one_more (h.last + 1) e n hs r.1.1)
  where
    go : (n < h.first) ⊎ (h.first ≤ n) → (n < h.last) ⊎ (h.last ≤ n) → (h.last < n) ⊎ (n ≤ h.last) → OneMore n hs → OneMore n (h ∷ hs)
    go (inl below) b c more = one_before e n h hs r.1.0 r.1.1 below
    go (inr from) (inl inside) c more = one_inside e n h hs r.1.0 r.1.1 from inside
    go (inr from) (inr to) (inl past) more = one_past e n h hs r.1.0 r.1.1 past more
    go (inr from) (inr to) (inr at) more = one_at e n h hs r.1.0 r.1.1 from to at

module _ (column : Extent) (apart : IsRising 0 (edges column)) where
  -- a counter that is missing is in a hole
  missing : (c : ℕ) → c ≤ column.upto → (nat_le 1 c && not (column_has column c)) ≡ in_holes column.holes c
  missing c le = grind (arith, none_before, le-leb)

  counted : (n : ℕ) → n ≤ column.upto → holes_among (column_has column) n ≡ ended n column.holes
  counted zero le = sym (none_ended 0 (column.upto + 1) 0 column.holes apart (omega arith))
  counted (suc n) le = grind (arith, counted n, le-leb, missing, one_more)

  -- THE HOLES of a column are those that its counters say
  pub holes_counted : holes_among (column_has column) column.upto ≡ length column.holes
  holes_counted = counted column.upto (omega arith) ∙ all_ended 0 column.upto column.holes apart
