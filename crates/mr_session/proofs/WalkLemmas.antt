-- A walk over two lists in version order, from a version on.
use Rattle.std.proofs.Common.{◌≡◌, ◌≤◌, ◌<◌, ◌==◌, ℕ, zero, suc, Bool, true, false, not, List, [], ◌∷◌, map, length, get_or, take, ◌-◌, drop, filter, find, Option, Some, None, refl, sym, ap, subst, ◌∙◌, arith}
use Rattle.std.specs.declared.cmp.Ordering.{Ordering}
use Rattle.mr_session.proofs.Names.{AllByRecursion, AreInVersionOrder, Asked, IsPartitionPoint, Less, Name, Rev, all_after, cases_order, claimed, head_before}
use Rattle.mr_session.proofs.Names.{is_ahead, is_before, is_due, is_le, is_lt, is_wanted, length-drop, lower, name_cmp, nat_tests, ordering_reverse, ranks_by}
use Rattle.mr_session.proofs.Names.{sides_of, slice_get, sorted_by_name, sorted_far, tail_rises, version_of}
use Rattle.std.proofs.Math.Seq.{take-length}
use Rattle.mr_version.specs.Order.{names_total}
use Rattle.mr_session.specs.inner.Merge.{is_left_first}

-- ---- those ahead

behind_or_ahead : (o : Ordering) → is_lt (ordering_reverse o) ≡ not (is_le o)
behind_or_ahead o = grind arith

ahead_is : (past v : Name) → is_before past v ≡ not (is_le (name_cmp v past))
ahead_is past v = ap is_lt (names_total.antisymm past v) ∙ behind_or_ahead (name_cmp v past)

-- what stands from the place on that parts them is what is ahead
pub ahead_from : (past : Name) (rs : List Rev) (i : ℕ) → IsPartitionPoint (λ (r : Rev). is_le (name_cmp r.version past) ≡ true) (λ (r : Rev). is_le (name_cmp r.version past) ≡ false) rs i
    → drop i rs ≡ filter (λ (r : Rev). is_ahead (Some past) r.version) rs
ahead_from past [] zero parts = refl
ahead_from past [] (suc i) parts = refl
ahead_from past (r ∷ rs) zero parts =
    let here : is_before past r.version ≡ true = ahead_is past r.version ∙ ap not (parts.1 0 r (omega arith) (omega arith)) in
    rw here (ap (λ (l : List Rev). r ∷ l) (ahead_from past rs zero ((λ k d low high. absurd (omega (arith, low, high))), λ k d low high. parts.1 (suc k) d (omega arith) (omega (arith, high)))))
ahead_from past (r ∷ rs) (suc i) parts =
    let here : is_before past r.version ≡ false = ahead_is past r.version ∙ ap not (parts.0 0 r (omega arith) (omega arith)) in
    rw here (ahead_from past rs i ((λ k d low high. parts.0 (suc k) d (omega arith) (omega (arith, high))), λ k d low high. parts.1 (suc k) d (omega (arith, low)) (omega (arith, high))))

pub all_ahead : (rs : List Rev) → rs ≡ filter (λ (r : Rev). is_ahead None r.version) rs
all_ahead [] = refl
all_ahead (r ∷ rs) = ap (λ (l : List Rev). r ∷ l) (all_ahead rs)

-- what is due is the first of those ahead that is wanted
pub due_ahead : (asked : Asked) (past : Option Name) (rs : List Rev) → find (is_wanted asked) (filter (λ (r : Rev). is_ahead past r.version) rs) ≡ find (is_due asked past) rs
due_ahead asked past [] = refl
due_ahead asked past (r ∷ rs) = grind (arith, due_ahead asked past rs, sides_of)

-- ---- those that are passed

-- what a slice to the end has
pub rest_of : (rs : List Rev) (i : ℕ) → take (length rs - i) (drop i rs) ≡ drop i rs
rest_of rs i = ap (λ (n : ℕ). take n (drop i rs)) (sym (length-drop i rs)) ∙ take-length (drop i rs)

pub drop_rises : (n : ℕ) (rs : List Rev) → AreInVersionOrder rs → AreInVersionOrder (drop n rs)
drop_rises zero rs rising = rising
drop_rises (suc n) [] rising = rising
drop_rises (suc n) (x ∷ xs) rising = drop_rises n xs (tail_rises version_of x xs rising)

-- a name that is not before another one, and before a counter of its author, is of that author and between
between_names : (v low : Name) (until : ℕ) → is_before v (record { author = low.author; counter = until }) ≡ true → is_before v low ≡ false → (v.author ≡ low.author) × (low.counter ≤ v.counter) × (v.counter < until)
between_names v low until before not_below = grind (arith, cases_order, nat_tests)

find_behind : (p : Rev → Bool) (rs : List Rev) (n : ℕ) → n ≤ length rs → ((k : ℕ) (d : Rev) → k < n → p (get_or rs k d) ≡ false) → find p (drop n rs) ≡ find p rs
find_behind p rs zero within none = refl
find_behind p [] (suc n) within none = absurd (omega (arith, within))
find_behind p (x ∷ xs) (suc n) within none = rw (none 0 x (omega arith)) (find_behind p xs n (omega (arith, within)) (λ k d lt. none (suc k) d (omega (arith, lt))))

module _ (asked : Asked) (first : Rev) (until : ℕ)
    (known : (counter : ℕ) → first.version.counter ≤ counter → counter < until → (item : Name) → claimed asked.claims item (record { author = first.version.author; counter = counter }) ≡ true) where
  known_one : (r : Rev) → is_before r.version (record { author = first.version.author; counter = until }) ≡ true → is_before r.version first.version ≡ false → is_wanted asked r ≡ false
  known_one r before not_below =
      let between = between_names r.version first.version until before not_below in
      let same : r.version ≡ record { author = first.version.author; counter = r.version.counter } = λ i. record { author = between.0 i; counter = r.version.counter } in
      let claims : claimed asked.claims r.item r.version ≡ true = ap (claimed asked.claims r.item) same ∙ known r.version.counter between.1 between.2 r.item in
      rw claims refl

  -- the versions from the first one to one that may not be known are not wanted
  pub passed : (rs : List Rev) (n : ℕ) → AreInVersionOrder rs → slice_get rs 0 ≡ Some first → n ≤ length rs
      → IsPartitionPoint (λ (r : Rev). is_before r.version (record { author = first.version.author; counter = until }) ≡ true) (λ (r : Rev). is_before r.version (record { author = first.version.author; counter = until }) ≡ false) rs n
      → find (is_wanted asked) (drop n rs) ≡ find (is_wanted asked) rs
  passed [] n rising at_first within parts = absurd (cc)
  passed (x ∷ xs) n rising at_first within parts =
      let same : x ≡ first = cc in
      find_behind (is_wanted asked) (x ∷ xs) n within
      (λ k d lt.
      let stays : is_before (get_or (x ∷ xs) k d).version x.version ≡ false =
      sorted_far (λ (a b : Rev). is_before a.version b.version) (ranks_by names_total version_of) (x ∷ xs) (sorted_by_name version_of (x ∷ xs) rising) 0 k d (omega arith) (omega (arith, lt, within)) in
      known_one (get_or (x ∷ xs) k d) (parts.0 k d (omega arith) lt) (ap (λ (f : Rev). is_before (get_or (x ∷ xs) k d).version f.version) (sym same) ∙ stays))

-- ---- the first that is wanted

module _ (p : Rev → Bool) where
  -- what is found is one of those that are there
  found_one : (P : Name → Type 0) (rs : List Rev) (r : Rev) → AllByRecursion P (map version_of rs) → find p rs ≡ Some r → P r.version
  found_one P [] r all found = absurd (cc)
  found_one P (x ∷ rs) r all found = grind (arith, found_one P rs r all.1, sides_of)

  is_less : (o : Ordering) → is_lt o ≡ true → o ≡ Less
  is_less o h = grind arith

  -- the lower of the first one here and of what is found above it
  lower_here : (x : Rev) (o : Option Rev) → ((r : Rev) → o ≡ Some r → is_before x.version r.version ≡ true) → lower (Some x) o ≡ Some x
  lower_here x o above = grind arith

  lower_there : (y : Rev) (o : Option Rev) → ((r : Rev) → o ≡ Some r → is_before r.version y.version ≡ false) → lower o (Some y) ≡ Some y
  lower_there y o above = grind arith

  -- the first on the left comes first, and is it
  pub left_is : (x : Rev) (xs ys : List Rev) → AreInVersionOrder ys → is_left_first (x ∷ xs) ys ≡ true → p x ≡ true → lower (find p (x ∷ xs)) (find p ys) ≡ Some x
  left_is x xs [] rising first is = rw is refl
  left_is x xs (y ∷ ys) rising first is =
      let less = is_less (name_cmp x.version y.version) first in
      let above : AllByRecursion (λ (v : Name). name_cmp x.version v ≡ Less) (map version_of (y ∷ ys)) = (less, all_after version_of x.version y.version (map version_of ys) less (head_before version_of y ys rising)) in
      rw is (lower_here x (find p (y ∷ ys)) (λ r found. ap is_lt (found_one (λ (v : Name). name_cmp x.version v ≡ Less) (y ∷ ys) r above found)))

  pub left_is_not : (x : Rev) (xs ys : List Rev) → p x ≡ false → lower (find p (x ∷ xs)) (find p ys) ≡ lower (find p xs) (find p ys)
  left_is_not x xs ys is = rw is refl

  none_before : (x y : Name) (vs : List Name) → is_lt (name_cmp x y) ≡ false → AllByRecursion (λ (v : Name). name_cmp x v ≡ Less) vs → AllByRecursion (λ (v : Name). is_lt (name_cmp v y) ≡ false) vs
  none_before x y [] stays above = tt
  none_before x y (v ∷ vs) stays above = grind (arith, none_before x y vs stays above.1, sides_of, names_total, is_less)

  -- the first on the right comes first, and is it
  pub right_is : (xs : List Rev) (y : Rev) (ys : List Rev) → AreInVersionOrder xs → is_left_first xs (y ∷ ys) ≡ false → p y ≡ true → lower (find p xs) (find p (y ∷ ys)) ≡ Some y
  right_is [] y ys rising first is = rw is refl
  right_is (x ∷ xs) y ys rising first is =
      let above : AllByRecursion (λ (v : Name). is_lt (name_cmp v y.version) ≡ false) (map version_of (x ∷ xs)) = (first, none_before x.version y.version (map version_of xs) first (head_before version_of x xs rising)) in
      rw is (lower_there y (find p (x ∷ xs)) (λ r found. found_one (λ (v : Name). is_lt (name_cmp v y.version) ≡ false) (x ∷ xs) r above found))

  pub right_is_not : (xs : List Rev) (y : Rev) (ys : List Rev) → p y ≡ false → lower (find p xs) (find p (y ∷ ys)) ≡ lower (find p xs) (find p ys)
  right_is_not xs y ys is = rw is refl

  -- ---- the same, of slices

  rest_is : (x : Rev) (xs : List Rev) → take (length (x ∷ xs) - 1) (drop 1 (x ∷ xs)) ≡ xs
  rest_is x xs = let n : length (x ∷ xs) - 1 ≡ length xs = omega arith in ap (λ (k : ℕ). take k xs) n ∙ take-length xs

  pub at_left_is : (r : Rev) (ls rs : List Rev) → AreInVersionOrder rs → is_left_first ls rs ≡ true → r ≡ get_or ls 0 r → p r ≡ true → lower (find p ls) (find p rs) ≡ Some r
  at_left_is r ls rs rising first at is = grind (arith, left_is)

  pub at_left_not : (r : Rev) (ls rs : List Rev) → is_left_first ls rs ≡ true → r ≡ get_or ls 0 r → p r ≡ false → lower (find p (take (length ls - 1) (drop 1 ls))) (find p rs) ≡ lower (find p ls) (find p rs)
  at_left_not r [] rs first at is = absurd (cc)
  at_left_not r (x ∷ xs) rs first at is = ap (λ (l : List Rev). lower (find p l) (find p rs)) (rest_is x xs) ∙ sym (left_is_not x xs rs (ap p (sym at) ∙ is))

  pub at_right_is : (r : Rev) (ls rs : List Rev) → AreInVersionOrder ls → is_left_first ls rs ≡ false → 0 < length rs → r ≡ get_or rs 0 r → p r ≡ true → lower (find p ls) (find p rs) ≡ Some r
  at_right_is r ls [] rising first some at is = absurd (omega (arith, some))
  at_right_is r ls (y ∷ ys) rising first some at is = right_is ls y ys rising first (ap p (sym at) ∙ is) ∙ ap Some (sym at)

  pub at_right_not : (r : Rev) (ls rs : List Rev) → 0 < length rs → r ≡ get_or rs 0 r → p r ≡ false → lower (find p ls) (find p (take (length rs - 1) (drop 1 rs))) ≡ lower (find p ls) (find p rs)
  at_right_not r ls [] some at is = absurd (omega (arith, some))
  at_right_not r ls (y ∷ ys) some at is = ap (λ (l : List Rev). lower (find p ls) (find p l)) (rest_is y ys) ∙ sym (right_is_not ls y ys (ap p (sym at) ∙ is))

pub rest_rises : (ls : List Rev) → AreInVersionOrder ls → AreInVersionOrder (take (length ls - 1) (drop 1 ls))
rest_rises [] rising = rising
rest_rises (x ∷ xs) rising =
    let n : length (x ∷ xs) - 1 ≡ length xs = omega arith in
    subst AreInVersionOrder (sym (ap (λ (k : ℕ). take k xs) n ∙ take-length xs)) (tail_rises version_of x xs rising)

pub not_empty : (rs : List Rev) → (length rs == 0) ≡ false → 0 < length rs
not_empty rs is = grind arith
