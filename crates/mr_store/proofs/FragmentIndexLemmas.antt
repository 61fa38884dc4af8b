-- What fragments cover is read off the places of those of all items and off the listings of the item.
use Rattle.std.proofs.Common.{◌≡◌, ◌≤◌, ◌<◌, ◌+◌, ◌⊎◌, ℕ, zero, suc, Bool, true, false, ◌||◌, ◌&&◌, List, [], ◌∷◌, map, filter, length, get_or, take, drop, Option, Some, refl, sym, ap, ◌∙◌, arith}
use Rattle.mr_store.proofs.Names.{AuthorColumn, Finds, IsPartitionPoint, IsSortedByKey, Listing, Name, Ordering, Places, false_from_ne_true, general_from}
use Rattle.mr_store.proofs.Names.{general_of, has_at, has_item, is_eq, is_for, is_le, is_lt, is_told, item_of, list_any, list_any-IsPermutation}
use Rattle.mr_store.proofs.Names.{list_any-append, listed_items, listing_at, listings_from, listings_of, lists, name_cmp, name_eq, option_map_or, slice_get}
use Rattle.mr_store.proofs.Names.{vector_has}
use Rattle.mr_forms.specs.declared.fragment.ItemSet.{ItemSet}
use Rattle.mr_store.proofs.OrderLemmas.{parted_up_to}

-- ---- what is covered

both_any : (a b h : Bool) → ((a && h) || (b && h)) ≡ ((a || b) && h)
both_any a b h = grind arith

or_first : (a b c : Bool) → (a || (b || c)) ≡ (b || (a || c))
or_first a b c = grind arith

is_or_not : (b : Bool) → (b ≡ true) ⊎ (b ≡ false)
is_or_not b = grind arith

module _ {F : Type 0} (listed : F → Option (List Name)) (vector : F → List AuthorColumn) (fragments : List F) (i v : Name) where
  -- whether the one at the place has the version
  abbrev has : ℕ → Bool
  has = has_at vector fragments v

  -- whether the listing is of the item, and its fragment has the version
  abbrev pub tells : Listing → Bool
  tells l = is_for i l && has l.place

  -- the listings of a fragment tell what it says
  any_listed : (place : ℕ) (items : List Name) → list_any tells (map (listing_at place) items) ≡ (list_any (λ item. name_eq item i) items && has place)
  any_listed place [] = refl
  any_listed place (x ∷ xs) = grind (arith, any_listed place xs, both_any)

  twice_nothing : (b : Bool) → b ≡ ((b || false) || false)
  twice_nothing b = grind arith

  -- the fragment at a place
  one_told : (place : ℕ) (fragment : F) → has place ≡ vector_has (vector fragment) v → (items : Option (List Name))
      → (lists items i && vector_has (vector fragment) v) ≡ (list_any has (general_of place items) || list_any tells (listings_of place items))
  one_told place fragment is items = grind (arith, twice_nothing, any_listed)

  both : (a b c d : Bool) → ((a || b) || (c || d)) ≡ ((a || c) || (b || d))
  both a b c d = grind (arith, or_first)

  -- what fragments of which the first stands at a place tell
  told_from : (place : ℕ) (rest : List F) → ((j : ℕ) → slice_get fragments (place + j) ≡ slice_get rest j)
      → is_told listed vector rest i v ≡ (list_any has (general_from place (map listed rest)) || list_any tells (listings_from place (map listed rest)))
  told_from place [] stand = refl
  told_from place (fragment ∷ rest) stand =
      let here : place + 0 ≡ place = omega arith in
      let is : has place ≡ vector_has (vector fragment) v =
      ap (λ (o : Option F). option_map_or (λ (f : F). vector_has (vector f) v) o false) (ap (slice_get fragments) (sym here) ∙ stand 0) in
      let later = told_from (place + 1) rest (λ j. (let next : place + 1 + j ≡ place + suc j = omega arith in ap (slice_get fragments) next) ∙ stand (suc j)) in
      let first = one_told place fragment is (listed fragment) in
      (λ k. first k || later k)
      ∙ (both (list_any has (general_of place (listed fragment))) (list_any tells (listings_of place (listed fragment))) (list_any has (general_from (place + 1) (map listed rest))) (list_any tells (listings_from (place + 1) (map listed rest)))
      ∙ (λ k. sym (list_any-append has (general_of place (listed fragment)) (general_from (place + 1) (map listed rest))) k || sym (list_any-append tells (listings_of place (listed fragment)) (listings_from (place + 1) (map listed rest))) k))

  all_are : is_told listed vector fragments i v ≡ (list_any has (general_from 0 (map listed fragments)) || list_any tells (listings_from 0 (map listed fragments)))
  all_are = told_from 0 fragments (λ j. let start : 0 + j ≡ j = omega arith in ap (slice_get fragments) start)

  any_filter : (ls : List Listing) → list_any (λ l. has l.place) (filter (is_for i) ls) ≡ list_any tells ls
  any_filter [] = refl
  any_filter (l ∷ ls) = grind (arith, any_filter ls, is_or_not)

  -- an index of the fragments tells what they tell
  pub told_is : (places : Places) → Finds (map listed fragments) places
      → (list_any has places.general || list_any (λ l. has l.place) (filter (is_for i) places.listings)) ≡ is_told listed vector fragments i v
  told_is places finds = grind (arith, any_filter, list_any-IsPermutation, all_are)

  any_first : (p : ℕ → Bool) (places : List ℕ) (place : ℕ) → slice_get places 0 ≡ Some place → p place ≡ true → list_any p places ≡ true
  any_first p [] place first is = absurd (cc)
  any_first p (q ∷ places) place first is = let same : q ≡ place = cc in rw (same, is) refl

  -- what the first fragment of all items has is told of each
  pub general_tells : (places : Places) (place : ℕ) (fragment : F) → Finds (map listed fragments) places → slice_get places.general 0 ≡ Some place → slice_get fragments place ≡ Some fragment → vector_has (vector fragment) v ≡ true → is_told listed vector fragments i v ≡ true
  general_tells places place fragment finds first there is =
      let told : has place ≡ true = ap (λ (o : Option F). option_map_or (λ (f : F). vector_has (vector f) v) o false) there ∙ is in
      let any : list_any has places.general ≡ true = any_first has places.general place first told in
      sym (told_is places finds) ∙ ap (λ (b : Bool). b || list_any (λ l. has l.place) (filter (is_for i) places.listings)) any

-- ---- fragments themselves

lists_same : (items : ItemSet) (i : Name) → has_item items i ≡ lists (listed_items items) i
lists_same items i = grind arith

-- ---- those of one item

-- what passes a test and stands together is what the test filters
together : {X : Type 0} (p : X → Bool) (xs : List X) (from n : ℕ) → from + n ≤ length xs
    → ((k : ℕ) (d : X) → k < from → p (get_or xs k d) ≡ false) → ((k : ℕ) (d : X) → from ≤ k → k < from + n → p (get_or xs k d) ≡ true) → ((k : ℕ) (d : X) → from + n ≤ k → k < length xs → p (get_or xs k d) ≡ false)
    → take n (drop from xs) ≡ filter p xs
together p [] zero zero within before here behind = refl
together p [] zero (suc n) within before here behind = absurd (omega (arith, within))
together p [] (suc from) n within before here behind = absurd (omega (arith, within))
together p (x ∷ xs) zero zero within before here behind =
    rw (behind 0 x (omega arith) (omega arith)) (together p xs zero zero (omega arith) (λ k d lt. absurd (omega (arith, lt))) (λ k d ge lt. absurd (omega (arith, lt))) (λ k d ge lt. behind (suc k) d (omega arith) (omega (arith, lt))))
together {X = X} p (x ∷ xs) zero (suc n) within before here behind =
    rw (here 0 x (omega arith) (omega arith))
    (ap (λ (l : List X). x ∷ l) (together p xs zero n (omega (arith, within)) (λ k d lt. absurd (omega (arith, lt))) (λ k d ge lt. here (suc k) d (omega arith) (omega (arith, lt))) (λ k d ge lt. behind (suc k) d (omega (arith, ge)) (omega (arith, lt)))))
together p (x ∷ xs) (suc from) n within before here behind =
    rw (before 0 x (omega arith))
    (together p xs from n (omega (arith, within)) (λ k d lt. before (suc k) d (omega (arith, lt))) (λ k d ge lt. here (suc k) d (omega (arith, ge)) (omega (arith, lt))) (λ k d ge lt. behind (suc k) d (omega (arith, ge)) (omega (arith, lt))))

less_is_other : (o : Ordering) → is_lt o ≡ true → is_eq o ≡ false
less_is_other o h = grind arith

eq_is_le : (o : Ordering) → is_eq o ≡ true → is_le o ≡ true
eq_is_le o h = grind arith

neither_is_not_le : (o : Ordering) → is_lt o ≡ false → is_eq o ≡ false → is_le o ≡ true → ⊥
neither_is_not_le o h g k = grind arith

-- the first that is not below an item, and how many from there on are of it
module _ (item : Name) (ls : List Listing) (from to : ℕ) (sorted : IsSortedByKey item_of name_cmp ls)
    (below : IsPartitionPoint (λ (l : Listing). is_lt (name_cmp l.item item) ≡ true) (λ (l : Listing). is_lt (name_cmp l.item item) ≡ false) ls from)
    (begins : from ≤ to) (within : to ≤ length ls)
    (are : (k : ℕ) (d : Listing) → from ≤ k → k < to → is_for item (get_or ls k d) ≡ true) (ends : (d : Listing) → to < length ls → is_for item (get_or ls to d) ≡ false) where
  -- what stands behind these is of a higher item
  behind : (k : ℕ) (d : Listing) → to ≤ k → k < length ls → is_for item (get_or ls k d) ≡ false
  behind k d high lt = false_from_ne_true (is_for item (get_or ls k d)) (λ is. neither_is_not_le (name_cmp (get_or ls to d).item item) (below.1 to d begins (omega arith)) (ends d (omega arith)) (parted_up_to item_of ls item sorted to k d high lt (eq_is_le (name_cmp (get_or ls k d).item item) is)))

  pub those_from : (n : ℕ) → from + n ≡ to → take n (drop from ls) ≡ filter (is_for item) ls
  those_from n is = grind (arith, together, less_is_other, behind)
