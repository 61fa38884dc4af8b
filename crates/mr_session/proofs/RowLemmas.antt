-- Revisions at the front whose counters are in a row, and their versions as a run.
use Rattle.std.proofs.Common.{◌≡◌, ◌≤◌, ◌<◌, ◌+◌, ◌-◌, ◌==◌, ◌&&◌, ◌||◌, nat_le, ℕ, zero, suc, Bool, true, false, List, [], ◌∷◌, ◌++◌, map, length, get_or, take, drop, refl, sym, ap, subst, ◌∙◌, ◌⊎◌, inl, inr, arith, Some}
use Rattle.mr_session.proofs.Names.{AreInVersionOrder, IsAbove, IsRow, Name, Rev, cases_order, counter_on, eq-eqb, get_or_default, head_before, is_before}
use Rattle.mr_session.proofs.Names.{is_listed, is_lt, le-leb, list_any-append, lt-leb, map-append, name_eq, name_eq_parts, nat_tests, ne_eqb, same_names}
use Rattle.mr_session.proofs.Names.{slice_get, tail_rises, take_more, version_of}

-- so many of the author's versions in a row
abbrev pub in_row : (first : Name) → ℕ → List Name
in_row first zero = []
in_row first (suc n) = in_row first n ++ counter_on first n ∷ []

-- ---- where rising versions stand

-- w is of a higher author, or so many counters behind v or more
abbrev IsPast : (v : Name) → ℕ → (w : Name) → Type 0
IsPast v k w = (v.author < w.author) ⊎ ((w.author ≡ v.author) × (v.counter + k ≤ w.counter))

past_next : (v w : Name) → is_before v w ≡ true → IsPast v 1 w
past_next v w before = grind (arith, cases_order, nat_tests)

past_more : (v w x : Name) (j k : ℕ) → IsPast v j w → IsPast w k x → IsPast v (j + k) x
past_more v w x j k h i = grind arith

past_at : (x : Rev) (xs : List Rev) → AreInVersionOrder (x ∷ xs) → (k : ℕ) (d : Rev) → k < length (x ∷ xs) → IsPast x.version k (get_or (x ∷ xs) k d).version
past_at x xs rising zero d within = inr (refl, omega arith)
past_at x [] rising (suc k) d within = absurd (omega (arith, within))
past_at x (y ∷ ys) rising (suc k) d within =
    let next : 1 + k ≡ suc k = omega arith in
    subst (λ (n : ℕ). IsPast x.version n (get_or (y ∷ ys) k d).version) next
    (past_more x.version y.version (get_or (y ∷ ys) k d).version 1 k (past_next x.version y.version (ap is_lt (head_before version_of x (y ∷ ys) rising).0)) (past_at y ys (tail_rises version_of x (y ∷ ys) rising) k d (omega (arith, within))))

past_between : (rs : List Rev) → AreInVersionOrder rs → (i k : ℕ) (d : Rev) → i + k < length rs → IsPast (get_or rs i d).version k (get_or rs (i + k) d).version
past_between [] rising i k d within = absurd (omega (arith, within))
past_between (x ∷ xs) rising zero k d within =
    let none : k ≡ 0 + k = omega arith in
    subst (λ (n : ℕ). IsPast x.version k (get_or (x ∷ xs) n d).version) none (past_at x xs rising k d (omega (arith, within)))
past_between (x ∷ xs) rising (suc i) k d within =
    let one : suc (i + k) ≡ suc i + k = omega arith in
    subst (λ (n : ℕ). IsPast (get_or xs i d).version k (get_or (x ∷ xs) n d).version) one (past_between xs (tail_rises version_of x xs rising) i k d (omega (arith, within)))

counters_meet : (first w last : Name) (k p : ℕ) → k ≤ p → IsPast first k w → IsPast w (p - k) last → last ≡ counter_on first p → w ≡ counter_on first k
counters_meet first w last k p le h i at = grind arith

-- where a revision is as many counters behind the first one as places, all before it are
pub row_up_to : (rs : List Rev) (first : Name) (p : ℕ) → AreInVersionOrder rs → p < length rs → ((d : Rev) → (get_or rs 0 d).version ≡ first) → ((d : Rev) → (get_or rs p d).version ≡ counter_on first p) → IsRow first (p + 1) rs
row_up_to rs first p rising within at_first at_last k d lt =
    let none : 0 + k ≡ k = omega arith in
    let behind : IsPast (get_or rs 0 d).version k (get_or rs k d).version = subst (λ (n : ℕ). IsPast (get_or rs 0 d).version k (get_or rs n d).version) none (past_between rs rising 0 k d (omega (arith, lt, within))) in
    let from_first : IsPast first k (get_or rs k d).version = subst (λ (v : Name). IsPast v k (get_or rs k d).version) (at_first d) behind in
    let place : k + (p - k) ≡ p = omega (arith, lt) in
    let to_last : IsPast (get_or rs k d).version (p - k) (get_or rs p d).version = subst (λ (n : ℕ). IsPast (get_or rs k d).version (p - k) (get_or rs n d).version) place (past_between rs rising k (p - k) d (omega (arith, lt, within))) in
    counters_meet first (get_or rs k d).version (get_or rs p d).version k p (omega (arith, lt)) from_first to_last (at_last d)

-- ---- their versions

-- the versions of a row
pub row_names : (rs : List Rev) (first : Name) (n : ℕ) (d : Rev) → n ≤ length rs → IsRow first n rs → map version_of (take n rs) ≡ in_row first n
row_names rs first zero d within row = refl
row_names rs first (suc n) d within row =
    let next : suc n ≡ n + 1 = omega arith in
    ap (λ (m : ℕ). map version_of (take m rs)) next
    ∙ (ap (λ (l : List Rev). map version_of l) (take_more rs n d (omega (arith, within)))
    ∙ (map-append version_of (take n rs) (get_or rs n d ∷ [])
    ∙ (λ i. row_names rs first n d (omega (arith, within)) (λ k e lt. row k e (omega (arith, lt))) i ++ row n d (omega arith) i ∷ [])))

-- whether it is one of the author's counters from one to another
abbrev pub in_range : Name → ℕ → Name → Bool
in_range v n w = (w.author == v.author) && (nat_le v.counter w.counter && nat_le w.counter (v.counter + n))

range_more : (a : Bool) (c k n : ℕ) → ((a && (nat_le c k && nat_le k (c + n))) || ((a && (k == (c + suc n))) || false)) ≡ (a && (nat_le c k && nat_le k (c + suc n)))
range_more a c k n = grind (arith, cases_order, lt-leb, eq-eqb, le-leb, ne_eqb, nat_le)

-- the versions of a row are those of a run
pub listed_row : (v : Name) (n : ℕ) (w : Name) → is_listed (in_row v (suc n)) w ≡ in_range v n w
listed_row v zero w = grind (arith, name_eq_parts, nat_le, cases_order, eq-eqb, le-leb, ne_eqb, lt-leb)
listed_row v (suc n) w = grind (arith, listed_row v n w, list_any-append, name_eq_parts, range_more)

-- ---- what follows a row

pub at_first : (rs : List Rev) (first : Rev) → slice_get rs 0 ≡ Some first → (0 < length rs) × ((d : Rev) → (get_or rs 0 d).version ≡ first.version)
at_first [] first at = absurd (cc)
at_first (x ∷ xs) first at = let same : x ≡ first = cc in (omega arith, λ d. ap version_of same)

drop_head : (rs : List Rev) (n : ℕ) (v : Name) (vs : List Name) → map version_of (drop n rs) ≡ v ∷ vs → (n < length rs) × ((d : Rev) → (get_or rs n d).version ≡ v)
drop_head [] zero v vs at = absurd (cc)
drop_head [] (suc n) v vs at = absurd (cc)
drop_head (x ∷ xs) zero v vs at = let same : x.version ≡ v = cc in (omega arith, λ d. same)
drop_head (x ∷ xs) (suc n) v vs at = let rest = drop_head xs n v vs at in let within = rest.0 in (omega arith, rest.1)

past_above : (last v : Name) → IsPast last 1 v → IsAbove last.author last.counter v.author v.counter
past_above last v (inl less) = (omega arith, λ same. absurd (omega (arith, same)))
past_above last v (inr same) = let e = same.0 in let f = same.1 in (omega arith, λ one. omega arith)

-- what comes behind a row stands above it
pub next_above : (rs : List Rev) (first : Name) (n : ℕ) (d : Rev) → AreInVersionOrder rs → 1 ≤ n → n ≤ length rs → IsRow first n rs → (v : Name) (vs : List Name) → map version_of (drop n rs) ≡ v ∷ vs → IsAbove first.author (first.counter + (n - 1)) v.author v.counter
next_above rs first n d rising some within row v vs at =
    let next = drop_head rs n v vs at in
    let place : (n - 1) + 1 ≡ n = omega arith in
    let inside = next.0 in
    let past : IsPast (get_or rs (n - 1) d).version 1 (get_or rs ((n - 1) + 1) d).version = past_between rs rising (n - 1) 1 d (omega (arith, inside)) in
    let past_v : IsPast (get_or rs (n - 1) d).version 1 v = subst (λ (w : Name). IsPast (get_or rs (n - 1) d).version 1 w) (ap (λ (m : ℕ). (get_or rs m d).version) place ∙ next.1 d) past in
    past_above (counter_on first (n - 1)) v (subst (λ (w : Name). IsPast w 1 v) (row (n - 1) d (omega arith)) past_v)

-- the versions from the first on
pub names_from : (rs : List Rev) (first : Rev) → slice_get rs 0 ≡ Some first → map version_of rs ≡ first.version ∷ map version_of (drop 1 rs)
names_from rs first at = grind arith

-- a revision that is found as many counters on as places
pub found_on : (rs : List Rev) (first : Name) (p : ℕ) (r : Rev) → p < length rs → r ≡ get_or rs p r → name_eq r.version (counter_on first p) ≡ true → (d : Rev) → (get_or rs p d).version ≡ counter_on first p
found_on rs first p r within is same d = ap version_of (get_or_default rs p d r within ∙ sym is) ∙ same_names r.version (counter_on first p) same

-- the versions of the front and of the rest are all
pub names_split : (n : ℕ) (rs : List Rev) → map version_of rs ≡ map version_of (take n rs) ++ map version_of (drop n rs)
names_split zero rs = refl
names_split (suc n) [] = refl
names_split (suc n) (x ∷ xs) = ap (λ (l : List Name). x.version ∷ l) (names_split n xs)
