-- Revisions at the front that a test refuses are passed without a look at each.
use Rattle.std.proofs.Common.{◌≡◌, ◌≤◌, ◌<◌, ◌-◌, ℕ, zero, suc, Bool, true, false, List, [], ◌∷◌, length, get_or, take, drop, filter, Some, refl, sym, ap, subst, ◌∙◌, arith}
use Rattle.mr_store.proofs.Names.{AreInVersionOrder, AuthorColumn, IsPartitionPoint, Name, Rev, all_covered, and_right, by_vector, cases_order, in_any}
use Rattle.mr_store.proofs.Names.{is_before, is_unheld, length-drop, names_total, ranks_by, slice_get, sorted_by_name, sorted_far, tail_rises, vector_has}
use Rattle.mr_store.proofs.Names.{version_of}
use Rattle.std.proofs.Math.Seq.{take-length}
use Rattle.std.proofs.lemmas.Bool.Decides.{nat_tests}
use Rattle.mr_concise.specs.Fragments.{ConciseFragment}

-- what a slice to the end has
pub rest_of : (rs : List Rev) (i : ℕ) → take (length rs - i) (drop i rs) ≡ drop i rs
rest_of rs i = ap (λ (n : ℕ). take n (drop i rs)) (sym (length-drop i rs)) ∙ take-length (drop i rs)

pub drop_rises : (n : ℕ) (rs : List Rev) → AreInVersionOrder rs → AreInVersionOrder (drop n rs)
drop_rises zero rs rising = rising
drop_rises (suc n) [] rising = rising
drop_rises (suc n) (x ∷ xs) rising = drop_rises n xs (tail_rises version_of x xs rising)

-- what a slice without its first has
rest_is : (x : Rev) (xs : List Rev) → take (length (x ∷ xs) - 1) (drop 1 (x ∷ xs)) ≡ xs
rest_is x xs = let n : length (x ∷ xs) - 1 ≡ length xs = omega arith in ap (λ (k : ℕ). take k xs) n ∙ take-length xs

pub rest_rises : (rs : List Rev) → AreInVersionOrder rs → AreInVersionOrder (take (length rs - 1) (drop 1 rs))
rest_rises [] rising = rising
rest_rises (x ∷ xs) rising = subst AreInVersionOrder (sym (rest_is x xs)) (tail_rises version_of x xs rising)

-- what a test keeps of a list, with its first or without
pub keeps_first : (p : Rev → Bool) (rs : List Rev) (first : Rev) → slice_get rs 0 ≡ Some first → p first ≡ true → filter p rs ≡ first ∷ filter p (take (length rs - 1) (drop 1 rs))
keeps_first p [] first at is = absurd (cc)
keeps_first p (x ∷ xs) first at is =
    let same : x ≡ first = cc in
    rw (ap p same ∙ is) (λ i. same i ∷ ap (filter p) (sym (rest_is x xs)) i)

pub passes_first : (p : Rev → Bool) (rs : List Rev) (first : Rev) → slice_get rs 0 ≡ Some first → p first ≡ false → filter p rs ≡ filter p (take (length rs - 1) (drop 1 rs))
passes_first p [] first at is = absurd (cc)
passes_first p (x ∷ xs) first at is =
    let same : x ≡ first = cc in
    rw (ap p same ∙ is) (ap (filter p) (sym (rest_is x xs)))

-- a name that is not before another one, and before a counter of its author, is of that author and between
pub between_names : (v low : Name) (until : ℕ) → is_before v (record { author = low.author; counter = until }) ≡ true → is_before v low ≡ false → (v.author ≡ low.author) × (low.counter ≤ v.counter) × (v.counter < until)
between_names v low until before not_below = grind (arith, cases_order, nat_tests)

-- what a test refuses at the front leaves what it keeps as it is
pub filter_behind : (p : Rev → Bool) (rs : List Rev) (n : ℕ) → n ≤ length rs → ((k : ℕ) (d : Rev) → k < n → p (get_or rs k d) ≡ false) → filter p (drop n rs) ≡ filter p rs
filter_behind p rs zero within none = refl
filter_behind p [] (suc n) within none = absurd (omega (arith, within))
filter_behind p (x ∷ xs) (suc n) within none = rw (none 0 x (omega arith)) (filter_behind p xs n (omega (arith, within)) (λ k d lt. none (suc k) d (omega (arith, lt))))

-- the author's version of a counter
abbrev pub version_at : Name → ℕ → Name
version_at v counter = record { author = v.author; counter = counter }

module _ (p : Rev → Bool) (first : Rev) (until : ℕ)
    (fails : (counter : ℕ) → first.version.counter ≤ counter → counter < until → (r : Rev) → r.version ≡ version_at first.version counter → p r ≡ false) where
  fails_one : (r : Rev) → is_before r.version (version_at first.version until) ≡ true → is_before r.version first.version ≡ false → p r ≡ false
  fails_one r before not_below =
      let between = between_names r.version first.version until before not_below in
      fails r.version.counter between.1 between.2 r (λ i. record { author = between.0 i; counter = r.version.counter })

  -- the versions from the first one up to a counter are passed, where a test refuses each
  pub passed_none : (rs : List Rev) (n : ℕ) → AreInVersionOrder rs → slice_get rs 0 ≡ Some first → n ≤ length rs
      → IsPartitionPoint (λ (r : Rev). is_before r.version (version_at first.version until) ≡ true) (λ (r : Rev). is_before r.version (version_at first.version until) ≡ false) rs n
      → (k : ℕ) (d : Rev) → k < n → p (get_or rs k d) ≡ false
  passed_none [] n rising at_first within parts k d lt = absurd (cc)
  passed_none (x ∷ xs) n rising at_first within parts k d lt =
      let same : x ≡ first = cc in
      let stays : is_before (get_or (x ∷ xs) k d).version x.version ≡ false =
      sorted_far (λ (a b : Rev). is_before a.version b.version) (ranks_by names_total version_of) (x ∷ xs) (sorted_by_name version_of (x ∷ xs) rising) 0 k d (omega arith) (omega (arith, lt, within)) in
      fails_one (get_or (x ∷ xs) k d) (parts.0 k d (omega arith) lt) (ap (λ (f : Rev). is_before (get_or (x ∷ xs) k d).version f.version) (sym same) ∙ stays)

  pub filter_passed : (rs : List Rev) (n : ℕ) → AreInVersionOrder rs → slice_get rs 0 ≡ Some first → n ≤ length rs
      → IsPartitionPoint (λ (r : Rev). is_before r.version (version_at first.version until) ≡ true) (λ (r : Rev). is_before r.version (version_at first.version until) ≡ false) rs n
      → filter p (drop n rs) ≡ filter p rs
  filter_passed rs n rising at_first within parts = filter_behind p rs n within (passed_none rs n rising at_first within parts)

-- what some vector has is not unheld
pub held_stays : (learned : List ConciseFragment) (held : List (List AuthorColumn)) (first : Rev) (until : ℕ)
    → ((counter : ℕ) → first.version.counter ≤ counter → counter < until → in_any vector_has held (version_at first.version counter) ≡ true)
    → (counter : ℕ) → first.version.counter ≤ counter → counter < until → (r : Rev) → r.version ≡ version_at first.version counter → is_unheld learned held r.item r.version ≡ false
held_stays learned held first until has counter low high r is = grind (arith, and_right)

-- what no fragment has is covered for no item
uncovered : (learned : List ConciseFragment) (i v : Name) → in_any by_vector learned v ≡ false → all_covered vector_has learned i v ≡ false
uncovered [] i v none = refl
uncovered (f ∷ fs) i v none = grind (arith, uncovered fs i v, and_right)

-- what no fragment has is not unheld
pub uncovered_stays : (learned : List ConciseFragment) (held : List (List AuthorColumn)) (first : Rev) (until : ℕ)
    → ((counter : ℕ) → first.version.counter ≤ counter → counter < until → in_any by_vector learned (version_at first.version counter) ≡ false)
    → (counter : ℕ) → first.version.counter ≤ counter → counter < until → (r : Rev) → r.version ≡ version_at first.version counter → is_unheld learned held r.item r.version ≡ false
uncovered_stays learned held first until h counter low high r is = grind (arith, uncovered)
