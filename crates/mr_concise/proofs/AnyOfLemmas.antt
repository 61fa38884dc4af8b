use Rattle.std.proofs.Common.{◌≡◌, ◌<◌, ◌≤◌, ◌+◌, ◌||◌, ℕ, Bool, true, false, refl, ap, sym, ◌∙◌, arith, List, [], ◌∷◌, ◌++◌, length, get_or, take, Option}
use Rattle.std.specs.Option.{MatchOption}
use Rattle.mr_concise.proofs.Names.{COUNTERS_END, HasNoAuthorFrom, HasNoneFrom, HasNoneOf, IfSome, IsNextAuthor, IsNextIn, IsNextOut, IsPassed, Name}
use Rattle.mr_concise.proofs.Names.{Versions, cases_lt, in_any, le-leb, list_any-append, lower_of, lt-leb, or_right, take_more}

or_none : (b : Bool) → (b || false) ≡ b
or_none b = grind arith

-- one more
pub in_any-more : {X : Type 0} (has : X → Versions) (xs : List X) (k : ℕ) (x : X) → k < length xs → x ≡ get_or xs k x → (v : Name) → in_any has (take (k + 1) xs) v ≡ (in_any has (take k xs) v || has x v)
in_any-more has xs k x l at v =
    ap (λ ys. in_any has ys v) (take_more xs k x l ∙ ap (λ y. take k xs ++ y ∷ []) (sym at))
    ∙ list_any-append (λ y. has y v) (take k xs) (x ∷ [])
    ∙ ap (λ b. in_any has (take k xs) v || b) (or_none (has x v))

pub in_any-more_is : {X : Type 0} (has : X → Versions) (xs : List X) (k : ℕ) (x : X) → k < length xs → x ≡ get_or xs k x → in_any has (take (k + 1) xs) ≡ (λ v. in_any has (take k xs) v || has x v)
in_any-more_is has xs k x l at = let h : (v : Name) → in_any has (take (k + 1) xs) v ≡ (in_any has (take k xs) v || has x v) = in_any-more has xs k x l at in λ i v. h v i

-- either of two sets
abbrev pub either : (ℕ → Bool) → (ℕ → Bool) → ℕ → Bool
either s t = λ c. s c || t c

neither : (s t : ℕ → Bool) (c : ℕ) → s c ≡ false → t c ≡ false → either s t c ≡ false
neither s t c a b = rw (a, b) refl

-- the next counter of one set, or none
abbrev pub NextIn : (ℕ → Bool) → ℕ → Option ℕ → Type 0
NextIn has from r = MatchOption r (HasNoneFrom has from) (λ at. IsNextIn has from at)

pub NextIn-lower : (s t : ℕ → Bool) (from : ℕ) (a b : Option ℕ) → NextIn s from a → NextIn t from b → NextIn (either s t) from (lower_of a b)
NextIn-lower s t from a b x y = grind (arith, neither, or_right, cases_lt, lt-leb, le-leb)

pub bound-lower : (n : ℕ) (a b : Option ℕ) → IfSome a (λ at. at ≤ n) → IfSome b (λ at. at ≤ n) → IfSome (lower_of a b) (λ at. at ≤ n)
bound-lower n a b x y = grind (arith, cases_lt, lt-leb, le-leb)

-- the next author of one set, or none
abbrev pub NextAuthor : Versions → ℕ → Option ℕ → Type 0
NextAuthor set id r = MatchOption r (HasNoAuthorFrom set id) (λ author. IsNextAuthor set id author)

abbrev pub either_set : Versions → Versions → Versions
either_set s t = λ v. s v || t v

none-either : (s t : Versions) (q : ℕ) → HasNoneOf s q → HasNoneOf t q → HasNoneOf (either_set s t) q
none-either s t q x y c = rw (x c, y c) refl

pub NextAuthor-lower : (s t : Versions) (id : ℕ) (a b : Option ℕ) → NextAuthor s id a → NextAuthor t id b → NextAuthor (either_set s t) id (lower_of a b)
NextAuthor-lower s t id a b x y = grind (arith, none-either, cases_lt, lt-leb, le-leb)

-- past one part more
pub IsPassed-more : (s t : ℕ → Bool) (from at next : ℕ) → IsPassed s from at → IsNextOut t at next → next ≤ COUNTERS_END → t 0 ≡ false → IsPassed (either s t) from next
IsPassed-more s t from at next w n bound zero_out = grind (arith, cases_lt, or_right, neither)

-- all from here up to the place are in the set
pub record IsAllTo (has : ℕ → Bool) (from at : ℕ) : Type 0 where
  pub above : from ≤ at
  pub bound : at ≤ COUNTERS_END
  pub between : (c : ℕ) → from ≤ c → c < at → has c ≡ true

-- all from here up to the place are in one of two sets, and the place is not in the first
pub record IsPastFirst (s t : ℕ → Bool) (from at : ℕ) : Type 0 where
  pub all : IsAllTo (either s t) from at
  pub is_out : s at ≡ false
