-- two lists that have no version in common, after each edit
use Rattle.std.proofs.Common.{◌≡◌, Bool, true, false, ◌&&◌, ◌||◌, cond, refl, sym, ap, ◌∙◌, List, [], ◌∷◌, ◌++◌, inl, inr, Option, Some, None, is_some, arith}
use Rattle.mr_store.proofs.Names.{AreApart, Name, Rev, entered, filter, find-append, holds, is_before, name_eq, named-filter, option_or, or_right}
use Rattle.mr_store.proofs.Names.{revision_of, same_names, version_of}
use Rattle.mr_store.proofs.RevisionLemmas.{either}

-- ---- a version in either list

-- the first list comes first
pub revision_of-first : (a b : List Rev) (v : Name) (r : Rev) → Some r ≡ revision_of a v → Some r ≡ revision_of (a ++ b) v
revision_of-first a b v r is = ap (λ o. option_or o (revision_of b v)) is ∙ sym (find-append (λ x. name_eq x.version v) a b)

pub revision_of-second : (a b : List Rev) (v : Name) → None ≡ revision_of a v → revision_of b v ≡ revision_of (a ++ b) v
revision_of-second a b v none = ap (λ o. option_or o (revision_of b v)) none ∙ sym (find-append (λ x. name_eq x.version v) a b)

neither : {X : Type 0} (a b : Option X) → option_or a b ≡ None → record { first : a ≡ None; second : b ≡ None }
neither a b h = grind arith

-- what is in neither list is in none of the two
pub revision_of-neither : (a b : List Rev) (v : Name) → revision_of (a ++ b) v ≡ None → record { first : revision_of a v ≡ None; second : revision_of b v ≡ None }
revision_of-neither a b v none = neither (revision_of a v) (revision_of b v) (sym (find-append (λ x. name_eq x.version v) a b) ∙ none)

-- ---- apart

-- the list has no version that was not in the old one
abbrev pub HasNoNew : List Rev → List Rev → Type 0
HasNoNew old new = (v : Name) → holds old v ≡ false → holds new v ≡ false

pub no_new_itself : (rs : List Rev) → HasNoNew rs rs
no_new_itself rs v h = h

none_of : {X : Type 0} (o : Option X) → is_some o ≡ false → o ≡ None
none_of o h = grind arith

pub no_new-filter : (p : Rev → Bool) (rs : List Rev) → HasNoNew rs (filter p rs)
no_new-filter p rs v h = ap is_some (named-filter version_of p v rs (none_of (revision_of rs v) h))

and_left : (a b : Bool) → (a && b) ≡ false → a ≡ true → b ≡ false
and_left a b h e = grind arith

and_none : (a b : Bool) → b ≡ false → (a && b) ≡ false
and_none a b h = grind arith

-- lists that have no new version stay apart
pub apart_kept : (a b a' b' : List Rev) → AreApart a b → HasNoNew a a' → HasNoNew b b' → AreApart a' b'
apart_kept a b a' b' apart fewer_a fewer_b v = grind (arith, either, and_none, and_left)

-- the versions with one that enters
pub holds-entered : (r : Rev) (rs : List Rev) (v : Name) → holds (entered r rs) v ≡ (name_eq r.version v || holds rs v)
holds-entered r [] v = elim (name_eq r.version v) as (λ b. is_some (cond b (Some r) None) ≡ (b || false)) [ true ↦ refl | false ↦ refl ]
holds-entered r (x ∷ xs) v =
    elim (is_before x.version r.version) as (λ b. holds (cond b (x ∷ entered r xs) (r ∷ x ∷ xs)) v ≡ (name_eq r.version v || holds (x ∷ xs) v)) [
      | true ↦ elim (either (name_eq x.version v)) [
        | inl here ↦ rw here (sym (or_right (name_eq r.version v) true refl))
        | inr later ↦ rw later (holds-entered r xs v)
      ]
      | false ↦ elim (name_eq r.version v) as (λ b. is_some (cond b (Some r) (revision_of (x ∷ xs) v)) ≡ (b || holds (x ∷ xs) v)) [ true ↦ refl | false ↦ refl ]
    ]

-- a version that neither has enters one of them
pub apart_entered_first : (r : Rev) (a b : List Rev) → AreApart a b → revision_of b r.version ≡ None → AreApart (entered r a) b
apart_entered_first r a b apart new v = grind (arith, holds-entered, either, same_names, is_some)

pub apart_entered_second : (r : Rev) (a b : List Rev) → AreApart a b → revision_of a r.version ≡ None → AreApart a (entered r b)
apart_entered_second r a b apart new v = grind (arith, holds-entered, either, same_names, is_some)
