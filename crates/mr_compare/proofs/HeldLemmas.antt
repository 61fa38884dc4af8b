-- revisions that are read, one by one, and heads in any order
use Rattle.std.proofs.Common.{◌≡◌, ℕ, ◌+◌, ◌<◌, ◌≤◌, Bool, true, false, ◌&&◌, List, [], ◌∷◌, ◌++◌, map, take, length, get_or, Option, Some, None, refl, ap, sym, subst, ◌∙◌, arith}
use Rattle.mr_compare.proofs.Names.{All-from_recursion, All-nil, All-push, AllByRecursion, AreRead, Name, Rev, Tells, ViewParts, and_from, and_parts}
use Rattle.mr_compare.proofs.Names.{append-nil, differ, flat_map, flat_map-append, flat_map-cons, heads_told, length-append, length-map, list_all, map-append}
use Rattle.mr_compare.proofs.Names.{merged_view, not, recursion_from_All, view_at, view_eq, view_eq-Decides}
use Rattle.std.specs.List.Sorted.{IsPermutation}
use Rattle.std.proofs.lemmas.List.Sorted.{IsPermutation-sym, IsPermutation-map, All-permutation, length_permutation}
use Rattle.mr_maildir.proofs.MergingLemmas.{merged-moved}
use Rattle.mr_compare.proofs.ListLemmas.{take_one}
use Rattle.mr_compare.specs.declared.held.Head.{Head}
use Rattle.mr_compare.specs.inner.Held.{ReadsOne}

abbrev Row : Type 0
Row = (List ℕ × Name) × Head

abbrev row_of : Rev × Option (List ℕ) → List Row
row_of p = heads_told p.0 p.1

-- no revision was read
pub read_none : AreRead [] []
read_none = record { told = []; of_all = refl; by_bodies = All-nil (λ (p : Rev × Option (List ℕ)). Tells p.0.message.body p.1); heads_are = refl }

-- one more
pub read_more : (done : List Rev) (r : Rev) (old new : List Row) → AreRead done old → ReadsOne r old new → AreRead (done ++ r ∷ []) new
read_more done r old new a one = record {
  told = a.told ++ (r, one.told) ∷ [];
  of_all = map-append (λ p. p.0) a.told ((r, one.told) ∷ []) ∙ ap (λ rs. rs ++ r ∷ []) a.of_all;
  by_bodies = All-push (λ p. Tells p.0.message.body p.1) a.told (r, one.told) a.by_bodies one.by_body;
  heads_are =
      one.heads_are ∙ ap (λ hs. hs ++ heads_told r one.told) a.heads_are
      ∙ sym (flat_map-append row_of a.told ((r, one.told) ∷ []) ∙ ap (λ hs. flat_map row_of a.told ++ hs) (flat_map-cons row_of (r, one.told) [] ∙ append-nil (heads_told r one.told)));
}

-- a loop over revisions, one further
pub read_further : (start : List Row) (rs : List Rev) (i : ℕ) (r : Rev) (old new : List Row) → i < length rs → r ≡ get_or rs i r → ((done : List Rev) → AreRead done start → AreRead (done ++ take i rs) old) → ReadsOne r old new →
    (done : List Rev) → AreRead done start → AreRead (done ++ take (i + 1) rs) new
read_further start rs i r old new h e so_far one done a =
    subst (λ (xs : List Rev). AreRead xs new) (grouped done (take i rs) ∙ ap (λ xs. done ++ xs) (sym (take_one rs i r h e))) (read_more (done ++ take i rs) r old new (so_far done a) one)
  where
    grouped : (xs ys : List Rev) → (xs ++ ys) ++ r ∷ [] ≡ xs ++ (ys ++ r ∷ [])
    grouped [] ys = refl
    grouped (x ∷ xs) ys = ap (λ zs. x ∷ zs) (grouped xs ys)

at_most_one : (r : Rev) (t : Option (List ℕ)) → length (heads_told r t) ≤ 1
at_most_one r None = omega arith
at_most_one r (Some digest) = omega arith

few_rows : (told : List (Rev × Option (List ℕ))) → length (flat_map row_of told) ≤ length told
few_rows [] = omega arith
few_rows (p ∷ told) =
    let one = at_most_one p.0 p.1 in
    let more = few_rows told in
    let len : length (flat_map row_of (p ∷ told)) ≡ length (row_of p) + length (flat_map row_of told) = ap length (flat_map-cons row_of p told) ∙ length-append (row_of p) (flat_map row_of told) in
    omega arith

-- no more heads than revisions
pub few_heads : (rs : List Rev) (heads : List Row) → AreRead rs heads → length heads ≤ length rs
few_heads rs heads a =
    let few = few_rows a.told in
    let e : length heads ≡ length (flat_map row_of a.told) = ap length a.heads_are in
    let n : length rs ≡ length a.told = ap length (sym a.of_all) ∙ length-map a.told (λ p. p.0) in
    omega arith

-- ---- heads in any order

-- a test of each view, and of each head
pub all-map : (test : ViewParts → Bool) (heads : List Head) → list_all test (map view_at heads) ≡ list_all (λ (head : Head). test head.view) heads
all-map test [] = refl
all-map test (head ∷ heads) = ap (λ (rest : Bool). test head.view && rest) (all-map test heads)

pub merged_any_order : (ancestor : ViewParts) (heads others : List Head) → IsPermutation heads others → merged_view ancestor (map view_at heads) ≡ merged_view ancestor (map view_at others)
merged_any_order ancestor heads others moved = merged-moved ancestor (map view_at heads) (map view_at others) (IsPermutation-map view_at heads others moved)

same_all : (x : ViewParts) (xs : List ViewParts) → list_all (view_eq x) xs ≡ true → AllByRecursion (λ y. x ≡ y) xs
same_all x [] h = tt
same_all x (y ∷ ys) h =
    let parts = and_parts (view_eq x y) (list_all (view_eq x) ys) h in
    ((view_eq-Decides x y).0 parts.0, same_all x ys parts.1)

all_same : (x y : ViewParts) → x ≡ y → (ys : List ViewParts) → AllByRecursion (λ z. x ≡ z) ys → list_all (view_eq y) ys ≡ true
all_same x y e [] h = refl
all_same x y e (z ∷ zs) h = and_from (view_eq y z) (list_all (view_eq y) zs) ((view_eq-Decides y z).1 (sym e ∙ h.0)) (all_same x y e zs h.1)

not_is : (b : Bool) → not b ≡ false → b ≡ true
not_is true h = refl
not_is false h = absurd (cc)

still_alike : (xs ys : List ViewParts) → IsPermutation xs ys → differ xs ≡ false → differ ys ≡ false
still_alike xs [] moved h = refl
still_alike [] (y ∷ ys) moved h = let n = length_permutation [] (y ∷ ys) moved in absurd (omega arith)
still_alike (x ∷ xs) (y ∷ ys) moved h =
    let alike = same_all x xs (not_is (list_all (view_eq x) xs) h) in
    let all : AllByRecursion (λ z. x ≡ z) (x ∷ xs) = (refl, alike) in
    let others = recursion_from_All (λ z. x ≡ z) (y ∷ ys) (All-permutation (λ z. x ≡ z) (x ∷ xs) (y ∷ ys) moved (All-from_recursion (λ z. x ≡ z) (x ∷ xs) all)) in
    ap not (all_same x y others.0 ys others.1)

both_ways : (a b : Bool) → (a ≡ false → b ≡ false) → (b ≡ false → a ≡ false) → a ≡ b
both_ways true true f g = refl
both_ways true false f g = g refl
both_ways false true f g = sym (f refl)
both_ways false false f g = refl

differ-moved : (xs ys : List ViewParts) → IsPermutation xs ys → differ xs ≡ differ ys
differ-moved xs ys moved = both_ways (differ xs) (differ ys) (still_alike xs ys moved) (still_alike ys xs (IsPermutation-sym xs ys moved))

pub differ_any_order : (heads others : List Head) → IsPermutation heads others → differ (map view_at heads) ≡ differ (map view_at others)
differ_any_order heads others moved = differ-moved (map view_at heads) (map view_at others) (IsPermutation-map view_at heads others moved)
