-- Lists, tests, refusals, and functions of one and of two numbers that are changed at one place.
use Rattle.std.proofs.Common.{◌≡◌, ◌≢◌, refl, ap, ℕ, ◌==◌, Bool, false, not, ◌||◌, List, [], ◌∷◌, ◌++◌, map, ◌⊎◌, inl, inr, IsTrue, IsFalse, arith, eqb-true, Option, Some, None}
use Rattle.mr_world.proofs.Names.Lists.{eqb-false, find, is_some, length-map, list_any}
use Rattle.mr_world.proofs.Names.Replica.{◌orelse◌}
use Rattle.mr_world.proofs.Names.Model.{In, at, at_two, numbered}
use Rattle.mr_world.proofs.Names.Laws.{cases, false_from}

-- ---- tests

pub to_true : (b : Bool) → IsFalse (not b) → IsTrue b
to_true b h = grind arith

pub from_not : (b : Bool) → IsTrue (not b) → IsFalse b
from_not b h = grind arith

pub differs : (m n : ℕ) → ¬ (m ≡ n) → IsFalse (m == n)
differs m n h = false_from (m == n) (λ e. h (eqb-true m n e))

pub or_none : (a : Bool) → (a || false) ≡ a
or_none a = grind arith

pub or_swap : (a b : Bool) → (a || b) ≡ (b || a)
or_swap a b = grind arith

pub or_past : (a b c : Bool) → (a || (b || c)) ≡ (b || (a || c))
or_past a b c = grind arith

-- ---- lists

pub map_in : {A B : Type 0} (f : A → B) (xs : List A) (x : A) → In x xs → In (f x) (map f xs)
map_in f [] x i = elim i [ ]
map_in f (y ∷ ys) x i = elim i [ inl e ↦ inl (ap f e) | inr j ↦ inr (map_in f ys x j) ]

pub any_append : {A : Type 0} (p : A → Bool) (xs ys : List A) → list_any p (xs ++ ys) ≡ (list_any p xs || list_any p ys)
any_append p [] ys = refl
any_append p (x ∷ xs) ys = grind (arith, any_append p xs ys)

-- ---- what is found

pub find_in : {A : Type 0} (p : A → Bool) (xs : List A) (x : A) → find p xs ≡ Some x → In x xs × IsTrue (p x)
find_in p [] x e = absurd (cc)
find_in p (y ∷ ys) x e = grind (arith, find_in p ys x)

pub find_none : {A : Type 0} (p : A → Bool) (xs : List A) → find p xs ≡ None → (x : A) → In x xs → IsFalse (p x)
find_none p [] e x i = elim i [ ]
find_none p (y ∷ ys) e x i = grind (arith, find_none p ys)

pub some_of : {A : Type 0} (o : Option A) → IsTrue (is_some o) → (x : A) × (o ≡ Some x)
some_of o h = grind arith

pub none_of : {A : Type 0} (o : Option A) → IsFalse (is_some o) → o ≡ None
none_of o h = grind arith

pub orelse_none : {A : Type 0} (a b : Option A) → (a orelse b) ≡ None → (a ≡ None) × (b ≡ None)
orelse_none None b e = (refl, e)
orelse_none (Some x) b e = absurd (cc)

-- ---- tables by replica, and pools

pub same_place : (q r : ℕ) → (q ≡ r) ⊎ (q ≢ r)
same_place q r = elim (cases (q == r)) [ inl t ↦ inl (eqb-true q r t) | inr n ↦ inr (eqb-false q r n) ]

pub at_other : {A : Type 0} (f : ℕ → A) (r : ℕ) (x : A) (q : ℕ) → q ≢ r → at f r x q ≡ f q
at_other f r x q other = grind arith

pub two_other : {A : Type 0} (f : ℕ → ℕ → A) (r s : ℕ) (x : A) (q u : ℕ) → ¬ ((q ≡ r) × (u ≡ s)) → at_two f r s x q u ≡ f q u
two_other f r s x q u other = grind arith

-- a table is what it is with its own value put in
at_self_at : {A : Type 0} (f : ℕ → A) (r q : ℕ) → at f r (f r) q ≡ f q
at_self_at f r q = grind arith

pub at_self : {A : Type 0} (f : ℕ → A) (r : ℕ) → at f r (f r) ≡ f
at_self f r = λ i q. at_self_at f r q i

two_self_at : {A : Type 0} (f : ℕ → ℕ → A) (r u q t : ℕ) → at_two f r u (f r u) q t ≡ f q t
two_self_at f r u q t = grind arith

pub two_self : {A : Type 0} (f : ℕ → ℕ → A) (r u : ℕ) → at_two f r u (f r u) ≡ f
two_self f r u = λ i q t. two_self_at f r u q t i

pub at_elim₄ : {A B C D : Type 0} (P : ℕ → A → B → C → D → Type 0) (f : ℕ → A) (g : ℕ → B) (h : ℕ → C) (k : ℕ → D) (r : ℕ) (a : A) (b : B) (c : C) (d : D) (q : ℕ) →
    P r a b c d → P q (f q) (g q) (h q) (k q) → P q (at f r a q) (at g r b q) (at h r c q) (at k r d q)
at_elim₄ P f g h k r a b c d q here there = grind arith

pub numbered_map : {A B : Type 0} (f : A → B) (xs : List A) (n : ℕ) (x : A) → numbered xs n ≡ Some x → numbered (map f xs) n ≡ Some (f x)
numbered_map f [] n x e = absurd (cc)
numbered_map f (y ∷ ys) n x e = grind (arith, numbered_map f ys n x, length-map ys f)
