use Rattle.std.proofs.Common.{◌≡◌, ◌≢◌, ◌<◌, ◌⊎◌, ℕ, Bool, true, false, ◌&&◌, List, [], ◌∷◌, length, get_or, Option, Some, None, All, AllPairs, Contains, map, IfSome, refl, ap, sym, ◌∙◌, arith, inl, inr}
use Rattle.mr_forms.proofs.Names.{All-contains, All-contains_itself, All-head, All-map, All-tail, All-weaker, AreFragmentsOf, AreInOrder, AreListable}
use Rattle.mr_forms.proofs.Names.{ArePartsThat, ComesBefore, ComesFirst, Fragment, HasPlainVersions, IsAllOrOne, IsOneByOne, IsOnly, IsPlainPart, ItemSet}
use Rattle.mr_forms.proofs.Names.{Less, Listed, Name, Part, PlainKnown, Versions, and_parts, beyond_all, false≢true, get_or-map, had_by_item, had_for_all}
use Rattle.mr_forms.proofs.Names.{is_all, is_eq, is_listed, is_named, length-map, list_any, listed_items, name_cmp, names_total, or_cases, part_of}
use Rattle.mr_forms.proofs.Names.{sorted_from_all_adjacent}
use Rattle.mr_forms.specs.declared.fragment.ItemSet.TheVariants.{All as AllItems}
use Rattle.mr_forms.proofs.SetLemmas.{name_eq-symmetric, or_nothing}
use Rattle.mr_forms.proofs.PairLemmas.{name_eq-itself}
use Rattle.mr_forms.proofs.PartLemmas.{AllPairs-head, AllPairs-tail, Contains-cases, Contains-here, Contains-there, Contains-map}

-- ---- order

one_listable : (i : Name) → AreListable (i ∷ [])
one_listable i = record { some = λ empty. cc; few = omega arith; rising = sorted_from_all_adjacent names_total (i ∷ []) i (λ k within. absurd (omega arith)) }

listable-single : (items : ItemSet) → IsAllOrOne items → IfSome (listed_items items) AreListable
listable-single items single = grind (arith, one_listable)

lower_item : (a b : List Name) (i j : Name) → a ≡ i ∷ [] → b ≡ j ∷ [] → All (λ x. All (λ y. name_cmp x y ≡ Less) b) a → name_cmp i j ≡ Less
lower_item a b i j one other before =
    let first : All (λ x. All (λ y. name_cmp x y ≡ Less) b) (i ∷ []) = rw one at before in
    let then : All (λ y. name_cmp i y ≡ Less) b = All-head (λ x. All (λ y. name_cmp x y ≡ Less) b) i [] first in
    let there : All (λ y. name_cmp i y ≡ Less) (j ∷ []) = rw other at then in
    All-head (λ y. name_cmp i y ≡ Less) j [] there

comes_first-single : (a b : ItemSet) → IsAllOrOne a → IsAllOrOne b → ComesBefore a b → ComesFirst (listed_items a) (listed_items b)
comes_first-single a AllItems one other before = absurd before
comes_first-single AllItems (Listed b) one other before = tt
comes_first-single (Listed a) (Listed b) one other before = rw (one.1, other.1) (lower_item a.items b.items one.0 other.0 one.1 other.1 before)

in_order-single : (fs : List (Fragment (List Name))) → IsOneByOne fs → AreInOrder (map (part_of is_listed) fs)
in_order-single fs shape = record {
  listable = All-map (λ p. IfSome p.items AreListable) (part_of is_listed) fs (All-weaker (λ f. IsAllOrOne f.items) (λ f. IfSome (listed_items f.items) AreListable) (λ f single. listable-single f.items single) fs shape.single);
  in_order = λ i j d less within.
      let fits : j < length fs = rw length-map at within in
      pairs i j d less fits;
}
  where
    pairs : (i j : ℕ) (d : Part) → i < j → j < length fs → ComesFirst (get_or (map (part_of is_listed) fs) i d).items (get_or (map (part_of is_listed) fs) j d).items
    pairs i j d less fits = go fs refl
      where
        go : (gs : List (Fragment (List Name))) → fs ≡ gs → ComesFirst (get_or (map (part_of is_listed) fs) i d).items (get_or (map (part_of is_listed) fs) j d).items
        go [] e = let none : j < 0 = rw e at fits in absurd (omega arith)
        go (f ∷ gs) e =
            rw (get_or-map (part_of is_listed) fs i f d (omega arith), get_or-map (part_of is_listed) fs j f d fits)
            (comes_first-single (get_or fs i f).items (get_or fs j f).items (shape.single i f (omega arith)) (shape.single j f fits) (shape.in_order i j f less fits))

-- ---- what a fragment has, the others have not

not_all-after : (a b : ItemSet) → ComesBefore a b → is_all b ≡ false
not_all-after a b before = grind arith

nothing_for_all-after : (a : ItemSet) (fs : List (Fragment (List Name))) (v : Name) → All (λ g. ComesBefore a g.items) fs → had_for_all fs v ≡ false
nothing_for_all-after a [] v before = refl
nothing_for_all-after a (g ∷ fs) v before =
    rw (not_all-after a g.items (All-head (λ h. ComesBefore a h.items) g fs before), nothing_for_all-after a fs v (All-tail (λ h. ComesBefore a h.items) g fs before)) refl

-- the fragment of all items has all that is had for all
own_all : (fs : List (Fragment (List Name))) (f : Fragment (List Name)) (v : Name) → AllPairs (λ g h. ComesBefore g.items h.items) fs → Contains fs f → is_all f.items ≡ true → had_for_all fs v ≡ is_listed f.vector v
own_all [] f v order has all = let within = has.1 in absurd (omega arith)
own_all (g ∷ fs) f v order has all = go (Contains-cases g f fs has)
  where
    after : All (λ h. ComesBefore g.items h.items) fs
    after = AllPairs-head (λ g h. ComesBefore g.items h.items) g fs order

    go : (g ≡ f) ⊎ Contains fs f → had_for_all (g ∷ fs) v ≡ is_listed f.vector v
    go (inl e) =
        let here : is_all g.items ≡ true = ap (λ (h : Fragment (List Name)). is_all h.items) e ∙ all in
        rw (here, nothing_for_all-after g.items fs v after) (sym (or_nothing (is_listed g.vector v)) ∙ ap (λ (h : Fragment (List Name)). is_listed h.vector v) e)
    go (inr there) = absurd (false≢true (sym (not_all-after g.items f.items (All-contains (λ h. ComesBefore g.items h.items) fs f after there)) ∙ all))

not_named-before : (a b : ItemSet) (i : Name) → IsAllOrOne a → IsOnly i b → ComesBefore a b → is_named a i ≡ false
not_named-before AllItems b i one only before = refl
not_named-before (Listed a) AllItems i one only before = absurd before
not_named-before (Listed a) (Listed b) i one only before =
    rw (one.1, ap is_eq (lower_item a.items b.items one.0 i one.1 only before)) refl

not_named-after : (a b : ItemSet) (i : Name) → IsOnly i a → IsAllOrOne b → ComesBefore a b → is_named b i ≡ false
not_named-after a AllItems i only one before = refl
not_named-after AllItems (Listed b) i only one before = absurd only
not_named-after (Listed a) (Listed b) i only one before =
    rw (one.1, name_eq-symmetric one.0 i, ap is_eq (lower_item a.items b.items i one.0 only one.1 before)) refl

named-only : (items : ItemSet) (i : Name) → IsOnly i items → is_named items i ≡ true
named-only items i only = grind (arith, name_eq-itself)

nothing_by_item-after : (a : ItemSet) (i : Name) (fs : List (Fragment (List Name))) (v : Name) → IsOnly i a → All (λ g. IsAllOrOne g.items) fs → All (λ g. ComesBefore a g.items) fs → had_by_item fs i v ≡ false
nothing_by_item-after a i [] v only single before = refl
nothing_by_item-after a i (g ∷ fs) v only single before =
    rw (
      not_named-after a g.items i only (All-head (λ h. IsAllOrOne h.items) g fs single) (All-head (λ h. ComesBefore a h.items) g fs before),
      nothing_by_item-after a i fs v only (All-tail (λ h. IsAllOrOne h.items) g fs single) (All-tail (λ h. ComesBefore a h.items) g fs before),
    ) refl

-- the fragment of an item has all that is had by the item
own_item : (fs : List (Fragment (List Name))) (f : Fragment (List Name)) (i v : Name) → All (λ g. IsAllOrOne g.items) fs → AllPairs (λ g h. ComesBefore g.items h.items) fs → Contains fs f → IsOnly i f.items → had_by_item fs i v ≡ is_listed f.vector v
own_item [] f i v single order has only = let within = has.1 in absurd (omega arith)
own_item (g ∷ fs) f i v single order has only = go (Contains-cases g f fs has) (λ there. own_item fs f i v (All-tail (λ h. IsAllOrOne h.items) g fs single) (AllPairs-tail (λ g h. ComesBefore g.items h.items) g fs order) there only)
  where
    after : All (λ h. ComesBefore g.items h.items) fs
    after = AllPairs-head (λ g h. ComesBefore g.items h.items) g fs order

    go : (g ≡ f) ⊎ Contains fs f → (Contains fs f → had_by_item fs i v ≡ is_listed f.vector v) → had_by_item (g ∷ fs) i v ≡ is_listed f.vector v
    go (inl e) rest =
        let here : IsOnly i g.items = rw e only in
        rw (named-only g.items i here, nothing_by_item-after g.items i fs v here (All-tail (λ h. IsAllOrOne h.items) g fs single) after) (sym (or_nothing (is_listed g.vector v)) ∙ ap (λ (h : Fragment (List Name)). is_listed h.vector v) e)
    go (inr there) rest =
        rw (not_named-before g.items f.items i (All-head (λ h. IsAllOrOne h.items) g fs single) only (All-contains (λ h. ComesBefore g.items h.items) fs f after there)) (rest there)

-- ---- the parts

same_tests : (s t : Versions) → ((v : Name) → s v ≡ t v) → s ≡ t
same_tests s t h = λ i v. h v i

some_version : (vs : List Name) → vs ≢ [] → (v : Name) × (is_listed vs v ≡ true)
some_version [] filled = absurd (filled refl)
some_version (w ∷ vs) filled = (w, rw (name_eq-itself w) refl)

-- each fragment is a part
pub fragment_is_part : (k : PlainKnown) (fs : List (Fragment (List Name))) → AreFragmentsOf k fs → (f : Fragment (List Name)) → Contains fs f → IsPlainPart k (part_of is_listed f)
fragment_is_part k fs are f has = (some_version f.vector (All-contains (λ g. g.vector ≢ []) fs f are.one_by_one.filled has), go f.items refl (All-contains (λ g. IsAllOrOne g.items) fs f are.one_by_one.single has))
  where
    go : (items : ItemSet) → f.items ≡ items → IsAllOrOne items → HasPlainVersions k (listed_items items) (is_listed f.vector)
    go AllItems e single = same_tests (is_listed f.vector) (is_listed k.for_all) (λ v. sym (own_all fs f v are.one_by_one.in_order has (ap is_all e)) ∙ are.for_all v)
    go (Listed items) e single =
        let only : IsOnly single.0 f.items = rw e single.1 in
        rw single.1 (refl, same_tests (is_listed f.vector) (beyond_all k single.0) (λ v. sym (own_item fs f single.0 v are.one_by_one.single are.one_by_one.in_order has only) ∙ are.by_item single.0 v))

found : {X : Type 0} (p : X → Bool) (xs : List X) → list_any p xs ≡ true → (x : X) × (Contains xs x × (p x ≡ true))
found {X} p [] any = absurd (false≢true any)
found {X} p (x ∷ xs) any = go (or_cases (p x) (list_any p xs) any) (λ rest. found p xs rest)
  where
    go : (p x ≡ true) ⊎ (list_any p xs ≡ true) → (list_any p xs ≡ true → (y : X) × (Contains xs y × (p y ≡ true))) → (y : X) × (Contains (x ∷ xs) y × (p y ≡ true))
    go (inl here) rest = (x, (Contains-here x xs, here))
    go (inr there) rest = let r = rest there in (r.0, (Contains-there x r.0 xs r.1.0, r.1.1))

all_from_test : (items : ItemSet) → is_all items ≡ true → listed_items items ≡ None
all_from_test items all = grind (arith, false≢true)

only_from_test : (items : ItemSet) (i : Name) → IsAllOrOne items → is_named items i ≡ true → IsOnly i items
only_from_test items i single named = grind (arith, false≢true, or_nothing)

listed_only : (items : ItemSet) (i : Name) → IsOnly i items → listed_items items ≡ Some (i ∷ [])
listed_only items i only = grind arith

-- a part is what its items and its versions are
part_is : (f : Fragment (List Name)) (items : Option (List Name)) (versions : Versions) → listed_items f.items ≡ items → is_listed f.vector ≡ versions → part_of is_listed f ≡ record { items = items; versions = versions }
part_is f items versions same_items same = ap (λ (x : Option (List Name)). record { items = x; versions = is_listed f.vector }) same_items ∙ ap (λ (t : Versions). record { items = items; versions = t }) same

-- each part is a fragment's
has_part : (k : PlainKnown) (fs : List (Fragment (List Name))) → AreFragmentsOf k fs → (items : Option (List Name)) (versions : Versions) (v : Name) → versions v ≡ true → HasPlainVersions k items versions → Contains (map (part_of is_listed) fs) (record { items = items; versions = versions })
has_part k fs are None versions v some is =
    let had : had_for_all fs v ≡ true = are.for_all v ∙ ap (λ (t : Versions). t v) (sym is) ∙ some in
    let f = found (λ g. is_all g.items && is_listed g.vector v) fs had in
    let all : is_all f.0.items ≡ true = (and_parts (is_all f.0.items) (is_listed f.0.vector v) f.1.1).0 in
    let same : is_listed f.0.vector ≡ versions = same_tests (is_listed f.0.vector) (is_listed k.for_all) (λ w. sym (own_all fs f.0 w are.one_by_one.in_order f.1.0 all) ∙ are.for_all w) ∙ sym is in
    rw (← part_is f.0 None versions (all_from_test f.0.items all) same) (Contains-map (part_of is_listed) f.0 fs f.1.0)
has_part k fs are (Some []) versions v some is = absurd is
has_part k fs are (Some (i ∷ rest)) versions v some is =
    let had : had_by_item fs i v ≡ true = are.by_item i v ∙ ap (λ (t : Versions). t v) (sym is.1) ∙ some in
    let f = found (λ g. is_named g.items i && is_listed g.vector v) fs had in
    let named : is_named f.0.items i ≡ true = (and_parts (is_named f.0.items i) (is_listed f.0.vector v) f.1.1).0 in
    let only : IsOnly i f.0.items = only_from_test f.0.items i (All-contains (λ g. IsAllOrOne g.items) fs f.0 are.one_by_one.single f.1.0) named in
    let same : is_listed f.0.vector ≡ versions = same_tests (is_listed f.0.vector) (beyond_all k i) (λ w. sym (own_item fs f.0 i w are.one_by_one.single are.one_by_one.in_order f.1.0 only) ∙ are.by_item i w) ∙ sym is.1 in
    let items : listed_items f.0.items ≡ Some (i ∷ rest) = listed_only f.0.items i only ∙ ap (λ (r : List Name). Some (i ∷ r)) (sym is.0) in
    rw (← part_is f.0 (Some (i ∷ rest)) versions items same) (Contains-map (part_of is_listed) f.0 fs f.1.0)

-- THE PARTS of the fragments are those that the form has
pub plain_parts : (k : PlainKnown) (fs : List (Fragment (List Name))) → AreFragmentsOf k fs → ArePartsThat (IsPlainPart k) (map (part_of is_listed) fs)
plain_parts k fs are = record {
  in_order = in_order-single fs are.one_by_one;
  are = All-map (IsPlainPart k) (part_of is_listed) fs (All-weaker (Contains fs) (λ f. IsPlainPart k (part_of is_listed f)) (fragment_is_part k fs are) fs (All-contains_itself fs));
  has_all = λ p is. has_part k fs are p.items p.versions is.0.0 is.0.1 is.1;
}
