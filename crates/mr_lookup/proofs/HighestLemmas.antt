-- the highest counter of an author, fragment by fragment
use Rattle.std.proofs.Common.{◌≡◌, ◌⊎◌, ⊎_elim, ℕ, ◌+◌, ◌<◌, ◌≤◌, max, Bool, true, false, List, [], ◌∷◌, ◌++◌, length, take, get_or, Option, Some, None, refl, sym, ap, subst, ◌∙◌, arith}
use Rattle.mr_lookup.proofs.Names.{AreSame, ConciseFragment, HasItems, HasNone, IsHighest, IsHighestFound, MatchOption, Name, Pairs, all_covered, and_from}
use Rattle.mr_lookup.proofs.Names.{and_parts, and_right, covered, has_item, list_any, list_any-append, name_eq, name_eq-itself, or_cases, or_from, or_left}
use Rattle.mr_lookup.proofs.Names.{or_right, take_more, vector_has, ◌||◌, ◌≢◌}
use Rattle.std.proofs.Math.Bool.{or-false}
use Rattle.mr_forms.specs.declared.fragment.ItemSet.{ItemSet}
use Rattle.mr_forms.specs.declared.fragment.ItemSet.TheVariants as items
use Rattle.mr_forms.specs.Runs.{HasNoneOf, of_author}
use Rattle.mr_concise.specs.Last.{IsLast}
use Rattle.mr_lookup.specs.inner.Highest.{higher_of}

-- what is the highest counter of a knowledge is that of each that knows the same
pub found_as : (a b : Pairs) (author : ℕ) (found : Option ℕ) → AreSame b a → IsHighestFound a author found → IsHighestFound b author found
found_as a b author None same none = λ item version of. same item version ∙ none item version of
found_as a b author (Some n) same is = record {
  item = is.item;
  is_known = same is.item (record { author = author; counter = n }) ∙ is.is_known;
  highest = λ other version of known. is.highest other version of (sym (same other version) ∙ known);
}

-- ---- one fragment

first_listed : (xs : List Name) → xs ≢ [] → (i : Name) × (list_any (λ item. name_eq item i) xs ≡ true)
first_listed [] some = absurd (some refl)
first_listed (x ∷ xs) some = (x, ap (λ (b : Bool). b || list_any (λ item. name_eq item x) xs) (name_eq-itself x))

some_item : (items : ItemSet) → HasItems items → (i : Name) × (has_item items i ≡ true)
some_item items.All has = (record { author = 0; counter = 1 }, refl)
some_item (items.Listed list) has = first_listed list.items has

-- what a fragment adds to those before it
more : (fs : List ConciseFragment) (f : ConciseFragment) (i v : Name) → all_covered vector_has (fs ++ f ∷ []) i v ≡ (all_covered vector_has fs i v || covered vector_has f i v)
more fs f i v = list_any-append (λ g. covered vector_has g i v) fs (f ∷ []) ∙ ap (λ (b : Bool). all_covered vector_has fs i v || b) (or-false (covered vector_has f i v))

none_of : (f : ConciseFragment) (author : ℕ) → HasNoneOf (vector_has f.vector) author → HasNone (covered vector_has f) author
none_of f author none i v of =
    and_right (has_item f.items i) (vector_has f.vector v) (let P : ℕ → Type 0 = λ a. of_author (vector_has f.vector) a v.counter ≡ false in subst P (sym of) (none v.counter))

above_last : (f : ConciseFragment) (author c : ℕ) → IsLast (vector_has f.vector) author c → (i v : Name) → v.author ≡ author → covered vector_has f i v ≡ true → v.counter ≤ c
above_last f author c last i v of known =
    let P : ℕ → Type 0 = λ a. of_author (vector_has f.vector) a v.counter ≡ true in
    let is : of_author (vector_has f.vector) author v.counter ≡ true = subst P of (and_parts (has_item f.items i) (vector_has f.vector v) known).1 in
    let cases : (v.counter ≤ c) ⊎ (c < v.counter) = grind arith in
    ⊎_elim (λ (low : v.counter ≤ c). low) (λ (high : c < v.counter). absurd (let clash : true ≡ false = sym is ∙ last.above v.counter high in cc)) cases

highest_of : (f : ConciseFragment) (author c : ℕ) → HasItems f.items → IsLast (vector_has f.vector) author c → IsHighest (covered vector_has f) author c
highest_of f author c has last =
    let one = some_item f.items has in
    record { item = one.0; is_known = and_from (has_item f.items one.0) (of_author (vector_has f.vector) author c) one.1 last.is_in; highest = above_last f author c last }

of_one : (f : ConciseFragment) (author : ℕ) (b : Option ℕ) → HasItems f.items → MatchOption b (HasNoneOf (vector_has f.vector) author) (λ c. IsLast (vector_has f.vector) author c) → IsHighestFound (covered vector_has f) author b
of_one f author None has none = none_of f author none
of_one f author (Some c) has last = highest_of f author c has last

-- ---- two knowledges together

module _ (first second : Pairs) where
  abbrev together : Pairs
  together i v = first i v || second i v

  join_found : (author : ℕ) (a b : Option ℕ) → IsHighestFound first author a → IsHighestFound second author b → IsHighestFound together author (higher_of a b)
  join_found author None None p q = λ i v of. or_from (first i v) (second i v) (p i v of) (q i v of)
  join_found author None (Some n) p q = record {
    item = q.item;
    is_known = or_right (first q.item (record { author = author; counter = n })) (second q.item (record { author = author; counter = n })) q.is_known;
    highest = λ i v of known. ⊎_elim (λ (h : first i v ≡ true). absurd (let clash : true ≡ false = sym h ∙ p i v of in cc)) (λ (h : second i v ≡ true). q.highest i v of h) (or_cases (first i v) (second i v) known);
  }
  join_found author (Some n) None p q = record {
    item = p.item;
    is_known = or_left (first p.item (record { author = author; counter = n })) (second p.item (record { author = author; counter = n })) p.is_known;
    highest = λ i v of known. ⊎_elim (λ (h : first i v ≡ true). p.highest i v of h) (λ (h : second i v ≡ true). absurd (let clash : true ≡ false = sym h ∙ q i v of in cc)) (or_cases (first i v) (second i v) known);
  }
  join_found author (Some n) (Some m) p q = ⊎_elim
      (λ (low : n ≤ m). subst (λ (k : ℕ). IsHighest together author k) (let same : m ≡ max n m = omega (arith, low) in same) (record {
        item = q.item;
        is_known = or_right (first q.item (record { author = author; counter = m })) (second q.item (record { author = author; counter = m })) q.is_known;
        highest = λ i v of known. ⊎_elim (λ (h : first i v ≡ true). let below : v.counter ≤ n = p.highest i v of h in omega (arith, below, low)) (λ (h : second i v ≡ true). q.highest i v of h) (or_cases (first i v) (second i v) known);
      }))
      (λ (high : m ≤ n). subst (λ (k : ℕ). IsHighest together author k) (let same : n ≡ max n m = omega (arith, high) in same) (record {
        item = p.item;
        is_known = or_left (first p.item (record { author = author; counter = n })) (second p.item (record { author = author; counter = n })) p.is_known;
        highest = λ i v of known. ⊎_elim (λ (h : first i v ≡ true). p.highest i v of h) (λ (h : second i v ≡ true). let below : v.counter ≤ m = q.highest i v of h in omega (arith, below, high)) (or_cases (first i v) (second i v) known);
      }))
      (let cases : (n ≤ m) ⊎ (m ≤ n) = grind arith in cases)

-- ---- the walk

-- one fragment more
pub found_more : (author : ℕ) (fs : List ConciseFragment) (k : ℕ) (f : ConciseFragment) (a b : Option ℕ) → k < length fs → f ≡ get_or fs k f → HasItems f.items → IsHighestFound (all_covered vector_has (take k fs)) author a
    → MatchOption b (HasNoneOf (vector_has f.vector) author) (λ c. IsLast (vector_has f.vector) author c) → IsHighestFound (all_covered vector_has (take (k + 1) fs)) author (higher_of a b)
found_more author fs k f a b within at has found last =
    let longer : take (k + 1) fs ≡ take k fs ++ f ∷ [] = take_more fs k f within ∙ ap (λ (g : ConciseFragment). take k fs ++ g ∷ []) (sym at) in
    let P : List ConciseFragment → Type 0 = λ gs. IsHighestFound (all_covered vector_has gs) author (higher_of a b) in
    subst P (sym longer)
    (found_as (together (all_covered vector_has (take k fs)) (covered vector_has f)) (all_covered vector_has (take k fs ++ f ∷ [])) author (higher_of a b) (more (take k fs) f)
    (join_found (all_covered vector_has (take k fs)) (covered vector_has f) author a b found (of_one f author b has last)))
