-- Lists, tests and versions.
use Rattle.std.proofs.Common.{ℕ, nat_lt, arith, ◌≡◌, refl, sym, subst, Bool, true, false, not, ◌||◌, List, [], ◌∷◌, ◌++◌, ◌⊎◌, inl, inr, IsTrue, IsFalse, eq-eqb}
use Rattle.mr_model.proofs.Names.{Name, exact_names, is, le-ltb, list_any}
use Rattle.std.proofs.lemmas.Map.Views.{tells_apart}
pub use Rattle.std.proofs.lemmas.Bool.{cases_Bool as cases, or_cases as or_parts, or_left, or_right, false_from_ne_true as false_from}
pub use Rattle.mr_model.specs.Rules.{In}

pub not_true : (b : Bool) → ¬ IsTrue b → IsTrue (not b)
not_true b h = grind arith

pub not_both : (b : Bool) → IsTrue (not b) → ¬ IsTrue b
not_both b h = grind arith

-- two tests that imply each other are one
pub one_test : (a b : Bool) → (IsTrue a → IsTrue b) → (IsTrue b → IsTrue a) → a ≡ b
one_test a b h k = grind arith

pub is_refl : (v : Name) → IsTrue (is v v)
is_refl v = grind (arith, eq-eqb, le-ltb)

pub is_path : (v w : Name) → IsTrue (is v w) → v ≡ w
is_path v w h = tells_apart exact_names v w h

pub is_from : (v w : Name) → v ≡ w → IsTrue (is v w)
is_from v w e = subst (λ (u : Name). IsTrue (is v u)) e (is_refl v)

pub any_elim : {A : Type 0} (p : A → Bool) (xs : List A) → IsTrue (list_any p xs) → (x : A) × In x xs × IsTrue (p x)
any_elim p [] h = absurd (cc)
any_elim p (x ∷ xs) h = elim (or_parts (p x) (list_any p xs) h) [ inl a ↦ (x, inl refl, a) | inr b ↦ (let r = any_elim p xs b in (r.0, inr r.1, r.2)) ]

pub any_intro : {A : Type 0} (p : A → Bool) (xs : List A) (x : A) → In x xs → IsTrue (p x) → IsTrue (list_any p xs)
any_intro p [] x i h = elim i [ ]
any_intro p (y ∷ ys) x i h = elim i [ inl e ↦ or_left (p y) (list_any p ys) (subst (λ z. IsTrue (p z)) (sym e) h) | inr j ↦ or_right (p y) (list_any p ys) (any_intro p ys x j h) ]

pub in_append : {A : Type 0} (xs ys : List A) (x : A) → In x (xs ++ ys) → In x xs ⊎ In x ys
in_append [] ys x i = inr i
in_append (z ∷ xs) ys x i = elim i [ inl e ↦ inl (inl e) | inr j ↦ elim (in_append xs ys x j) [ inl a ↦ inl (inr a) | inr b ↦ inr b ] ]

pub append_left : {A : Type 0} (xs ys : List A) (x : A) → In x xs → In x (xs ++ ys)
append_left [] ys x i = elim i [ ]
append_left (z ∷ xs) ys x i = elim i [ inl e ↦ inl e | inr j ↦ inr (append_left xs ys x j) ]

pub append_right : {A : Type 0} (xs ys : List A) (x : A) → In x ys → In x (xs ++ ys)
append_right [] ys x i = i
append_right (z ∷ xs) ys x i = inr (append_right xs ys x i)
