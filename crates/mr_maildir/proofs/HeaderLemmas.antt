-- lines of a header
use Rattle.std.proofs.Common.{◌≡◌, ℕ, ◌+◌, ◌≤◌, Bool, true, false, not, cond, List, [], ◌∷◌, ◌++◌, length, take, drop, map, Option, Some, None, ltb, refl, sym, ap, ◌∙◌, inl, inr, lit≤, arith}
use Rattle.mr_maildir.proofs.Names.{Bor, begins, cases_Bool, drop-map, first_group, flat_map, from_first, is_folded, ltb-false, position_or_len, prefix_len}
use Rattle.mr_maildir.proofs.Names.{take-map, value_in, without_return}

-- tests of what is made of elements
prefix-map : {X Y : Type 0} (p : Y → Bool) (f : X → Y) (xs : List X) → prefix_len (λ x. p (f x)) xs ≡ prefix_len p (map f xs)
prefix-map p f [] = refl
prefix-map p f (x ∷ xs) = ap (λ n. cond (p (f x)) (1 + n) 0) (prefix-map p f xs)

from_first-map : {X Y : Type 0} (p : Y → Bool) (f : X → Y) (xs : List X) → map f (from_first (λ x. p (f x)) xs) ≡ from_first p (map f xs)
from_first-map p f xs =
    sym (drop-map f (position_or_len (λ x. p (f x)) xs) xs) ∙ ap (λ n. drop n (map f xs)) (prefix-map (λ y. not (p y)) f xs)

first_group-map : {X Y : Type 0} (p : Y → Bool) (f : X → Y) (xs : List X) → map f (first_group (λ x. p (f x)) xs) ≡ first_group p (map f xs)
first_group-map p f [] = refl
first_group-map p f (x ∷ xs) =
    ap (λ ys. f x ∷ ys) (sym (take-map f (prefix_len (λ x. p (f x)) xs) xs) ∙ ap (λ n. take n (map f xs)) (prefix-map p f xs))

flat-map : {X Y A : Type 0} (g : Y → List A) (f : X → Y) (xs : List X) → flat_map (λ x. g (f x)) xs ≡ flat_map g (map f xs)
flat-map g f [] = refl
flat-map g f (x ∷ xs) = ap (λ ys. g (f x) ++ ys) (flat-map g f xs)

-- the value of the first field, of lines that are lent
pub value_now : (key : List ℕ) (lines : List (Bor (List ℕ))) → drop (length key) (flat_map (λ l. without_return l.now) (first_group (λ l. is_folded l.now) (from_first (λ l. begins key l.now) lines))) ≡ value_in key (map (λ l. l.now) lines)
value_now key lines =
    let now : Bor (List ℕ) → List ℕ = λ l. l.now in
    ap (drop (length key))
    (flat-map without_return now (first_group (λ l. is_folded l.now) (from_first (λ l. begins key l.now) lines))
    ∙ ap (flat_map without_return) (first_group-map is_folded now (from_first (λ l. begins key l.now) lines)
    ∙ ap (first_group is_folded) (from_first-map (begins key) now lines)))

-- ---- the place of an element

-- what does not fail passes
pub twice_not : {X : Type 0} (p : X → Bool) (xs : List X) → position_or_len (λ x. not (p x)) xs ≡ prefix_len p xs
twice_not p [] = refl
twice_not p (x ∷ xs) =
    elim (p x) as (λ t. cond (not (not t)) (1 + position_or_len (λ x. not (p x)) xs) 0 ≡ cond t (1 + prefix_len p xs) 0) [
      | true ↦ ap (λ n. 1 + n) (twice_not p xs)
      | false ↦ refl
    ]

prefix_len-le : {X : Type 0} (p : X → Bool) (xs : List X) → prefix_len p xs ≤ length xs
prefix_len-le p [] = lit≤ tt
prefix_len-le p (x ∷ xs) =
    let rest = prefix_len-le p xs in
    elim (p x) as (λ t. cond t (1 + prefix_len p xs) 0 ≤ length (x ∷ xs)) [ true ↦ omega arith | false ↦ omega arith ]

pub at_place : {X : Type 0} (p : X → Bool) (xs : List X) (at : ℕ) (r : Option ℕ) → r ≡ Some at → r ≡ cond (ltb (position_or_len p xs) (length xs)) (Some (position_or_len p xs)) None → at ≡ position_or_len p xs
at_place p xs at r is was = go (ltb (position_or_len p xs) (length xs)) (sym is ∙ was)
  where
    go : (t : Bool) → Some at ≡ cond t (Some (position_or_len p xs)) None → at ≡ position_or_len p xs
    go true e = cc
    go false e = cc

pub no_place : {X : Type 0} (p : X → Bool) (xs : List X) (len : ℕ) (r : Option ℕ) → r ≡ None → len ≡ length xs → r ≡ cond (ltb (position_or_len p xs) (length xs)) (Some (position_or_len p xs)) None → len ≡ position_or_len p xs
no_place p xs len r is long was =
    elim (cases_Bool (ltb (position_or_len p xs) (length xs))) [
      | inl holds ↦
          let wrong : None ≡ Some (position_or_len p xs) = sym is ∙ (was ∙ ap (λ t. cond t (Some (position_or_len p xs)) None) holds) in
          cc
      | inr fails ↦
          let past : length xs ≤ position_or_len p xs = ltb-false (position_or_len p xs) (length xs) fails in
          let within = prefix_len-le (λ x. not (p x)) xs in
          omega arith
    ]
