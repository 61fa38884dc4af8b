use Rattle.std.proofs.Common.{◌≡◌, ◌≢◌, Bool, false, ◌||◌, ◌&&◌, List, [], ◌∷◌, ◌++◌, All, get_or, refl, ap, sym, ◌∙◌, subst, arith}
use Rattle.mr_forms.proofs.Names.{All-cons, All-from_recursion, All-head, All-nil, All-push, All-weaker, ComesBefore, EndsBy, Fragment, GainsPair}
use Rattle.mr_forms.proofs.Names.{GainsVersionOf, IsAllOrOne, IsFragmentOf, IsOneByOne, IsOnly, IsStrictlySortedBy, ItemSet, Less, Listed, Name, Ordering}
use Rattle.mr_forms.proofs.Names.{Pair, all_covered, all_pairs_push, eq_by_cmp, exact_names, had_by_item, had_for_all, has_item, is_all, is_gt, is_listed}
use Rattle.mr_forms.proofs.Names.{is_named, list_any-append, name_cmp, name_eq, names_total, ordering_then, pair, pair_cmp, sorted_head, tied_itself, upto}
use Rattle.mr_forms.specs.declared.fragment.ItemSet.TheVariants.{All as AllItems}
use Rattle.mr_forms.proofs.SetLemmas.{or_nothing}
use Rattle.mr_forms.proofs.PairLemmas.{pair_eq-parts}
use Rattle.mr_forms.proofs.ListLemmas.{All-front, All-last, AllPairs-front, AllPairs-last}

-- ---- one item

is_all-only : (i : Name) (items : ItemSet) → IsOnly i items → is_all items ≡ false
is_all-only i items only = grind arith

is_named-only : (i j : Name) (items : ItemSet) → IsOnly i items → is_named items j ≡ name_eq i j
is_named-only i j items only = grind (arith, or_nothing)

all_or_one-only : (i : Name) (items : ItemSet) → IsOnly i items → IsAllOrOne items
all_or_one-only i items only = grind arith

ends_by-only : (i : Name) (items : ItemSet) → IsOnly i items → EndsBy i items
ends_by-only i items only = grind (arith, All-cons, tied_itself, names_total, All-nil)

-- ---- the order of fragments

less_from_other : (a b : Name) (o : Ordering) → name_cmp a b ≡ o → is_gt o ≡ false → ¬ (a ≡ b) → name_cmp a b ≡ Less
less_from_other a b o e below other = grind (arith, exact_names)

-- one item's fragment stands after those of lower items
comes_before-other : (i : Name) (items only : ItemSet) → IsOnly i only → EndsBy i items → IsAllOrOne items → ¬ IsOnly i items → ComesBefore items only
comes_before-other i items only is ends single other = grind (arith, less_from_other, All-head, All-cons, All-nil)

comes_before-through : (a b c : ItemSet) → IsAllOrOne b → ComesBefore a b → ComesBefore b c → ComesBefore a c
comes_before-through a AllItems c single ab bc = absurd ab
comes_before-through a (Listed b) AllItems single ab bc = absurd bc
comes_before-through AllItems (Listed b) (Listed c) single ab bc = tt
comes_before-through (Listed a) (Listed b) (Listed c) single ab bc =
    let m = single.0 in
    let above : All (λ y. name_cmp m y ≡ Less) c.items = All-head (λ x. All (λ y. name_cmp x y ≡ Less) c.items) m [] (rw single.1 at bc) in
    let below : All (λ x. All (λ y. name_cmp x y ≡ Less) (m ∷ [])) a.items = rw single.1 at ab in
    All-weaker (λ x. All (λ y. name_cmp x y ≡ Less) (m ∷ [])) (λ x. All (λ y. name_cmp x y ≡ Less) c.items)
    (λ x under. All-weaker (λ y. name_cmp m y ≡ Less) (λ y. name_cmp x y ≡ Less) (λ y over. names_total.trans x m y (All-head (λ z. name_cmp x z ≡ Less) m [] under) over) c.items above)
    a.items below

-- ---- what fragments have

had_for_all-push : (fs : List (Fragment (List Name))) (f : Fragment (List Name)) (v : Name) → is_all f.items ≡ false → had_for_all (fs ++ f ∷ []) v ≡ had_for_all fs v
had_for_all-push fs f v not_all = grind (arith, list_any-append, or_nothing)

had_by_item-push : (fs : List (Fragment (List Name))) (f : Fragment (List Name)) (i v : Name) → had_by_item (fs ++ f ∷ []) i v ≡ (had_by_item fs i v || ((is_named f.items i && is_listed f.vector v) || false))
had_by_item-push fs f i v = list_any-append (λ g. is_named g.items i && is_listed g.vector v) fs (f ∷ [])

new_cases : (had e : Bool) → (had || (e || false)) ≡ (e || had)
new_cases had e = grind arith

grown_cases : (had named same has : Bool) → (had || ((named && (same || has)) || false)) ≡ ((named && same) || (had || ((named && has) || false)))
grown_cases had named same has = grind arith

-- a pair's own fragment is put at the end
pub gains_fragment : (fs : List (Fragment (List Name))) (f : Fragment (List Name)) (p : Pair) → IsFragmentOf f p → IsOneByOne fs → All (λ g. EndsBy p.item g.items) fs → All (λ g. ComesBefore g.items f.items) fs → GainsPair fs (fs ++ f ∷ []) p
gains_fragment fs f p of_pair shape ends before = record {
  for_all = λ v. had_for_all-push fs f v (is_all-only p.item f.items of_pair.item);
  by_item = λ i v. had_by_item-push fs f i v
      ∙ ap (λ b. had_by_item fs i v || ((b && is_listed f.vector v) || false)) (is_named-only p.item i f.items of_pair.item)
      ∙ ap (λ b. had_by_item fs i v || ((name_eq p.item i && b) || false)) (of_pair.versions v)
      ∙ ap (λ b. had_by_item fs i v || (b || false)) (sym (pair_eq-parts i v p))
      ∙ new_cases (had_by_item fs i v) (eq_by_cmp pair_cmp (pair i v) p);
  one_by_one = record {
    single = All-push (λ g. IsAllOrOne g.items) fs f shape.single (all_or_one-only p.item f.items of_pair.item);
    in_order = all_pairs_push (λ g h. ComesBefore g.items h.items) fs f shape.in_order (λ k d within. before k d within);
    filled = All-push (λ g. g.vector ≢ []) fs f shape.filled of_pair.filled;
  };
  up_to = All-push (λ g. EndsBy p.item g.items) fs f ends (ends_by-only p.item f.items of_pair.item);
}

-- the last fragment is of lower items: a new one follows it
pub gains_after_last : (old new front : List (Fragment (List Name))) (last f : Fragment (List Name)) (p : Pair) → old ≡ front ++ last ∷ [] → new ≡ (front ++ last ∷ []) ++ f ∷ [] → ¬ IsOnly p.item last.items → IsFragmentOf f p → IsOneByOne old → All (λ g. EndsBy p.item g.items) old → GainsPair old new p
gains_after_last old new front last f p was is other of_pair one_by_one up_to =
    let shape : IsOneByOne (front ++ last ∷ []) = rw was at one_by_one in
    let ends : All (λ g. EndsBy p.item g.items) (front ++ last ∷ []) = rw was at up_to in
    let single : IsAllOrOne last.items = All-last (λ g. IsAllOrOne g.items) front last shape.single in
    let after : ComesBefore last.items f.items = comes_before-other p.item last.items f.items of_pair.item (All-last (λ g. EndsBy p.item g.items) front last ends) single other in
    let before : All (λ g. ComesBefore g.items f.items) front =
    All-weaker (λ g. ComesBefore g.items last.items) (λ g. ComesBefore g.items f.items) (λ g under. comes_before-through g.items last.items f.items single under after) front
    (AllPairs-last (λ g h. ComesBefore g.items h.items) front last shape.in_order) in
    rw (was, is) (gains_fragment (front ++ last ∷ []) f p of_pair shape ends (All-push (λ g. ComesBefore g.items f.items) front last before after))

-- the last fragment is the item's: it gains the version
pub gains_in_last : (old new front : List (Fragment (List Name))) (last f : Fragment (List Name)) (p : Pair) → old ≡ front ++ last ∷ [] → new ≡ front ++ f ∷ [] → IsOnly p.item last.items → GainsVersionOf last f p.version → IsOneByOne old → All (λ g. EndsBy p.item g.items) old → GainsPair old new p
gains_in_last old new front last f p was is only gains one_by_one up_to =
    let shape : IsOneByOne (front ++ last ∷ []) = rw was at one_by_one in
    let ends : All (λ g. EndsBy p.item g.items) (front ++ last ∷ []) = rw was at up_to in
    let also : IsOnly p.item f.items = subst (IsOnly p.item) (sym gains.items) only in
    rw (was, is) (record {
      for_all = λ v. had_for_all-push front f v (is_all-only p.item f.items also) ∙ sym (had_for_all-push front last v (is_all-only p.item last.items only));
      by_item = λ i v. had_by_item-push front f i v
          ∙ ap (λ b. had_by_item front i v || ((b && is_listed f.vector v) || false)) (is_named-only p.item i f.items also)
          ∙ ap (λ b. had_by_item front i v || ((name_eq p.item i && b) || false)) (gains.versions v)
          ∙ grown_cases (had_by_item front i v) (name_eq p.item i) (name_eq p.version v) (is_listed last.vector v)
          ∙ ap (λ b. b || (had_by_item front i v || ((name_eq p.item i && is_listed last.vector v) || false))) (sym (pair_eq-parts i v p))
          ∙ ap (λ b. eq_by_cmp pair_cmp (pair i v) p || (had_by_item front i v || ((b && is_listed last.vector v) || false))) (sym (is_named-only p.item i last.items only))
          ∙ ap (λ b. eq_by_cmp pair_cmp (pair i v) p || b) (sym (had_by_item-push front last i v));
      one_by_one = record {
        single = All-push (λ g. IsAllOrOne g.items) front f (All-front (λ g. IsAllOrOne g.items) front last shape.single) (all_or_one-only p.item f.items also);
        in_order = all_pairs_push (λ g h. ComesBefore g.items h.items) front f (AllPairs-front (λ g h. ComesBefore g.items h.items) front last shape.in_order)
            (λ k d within. subst (ComesBefore (get_or front k d).items) (sym gains.items) (AllPairs-last (λ g h. ComesBefore g.items h.items) front last shape.in_order k d within));
        filled = All-push (λ g. g.vector ≢ []) front f (All-front (λ g. g.vector ≢ []) front last shape.filled) gains.filled;
      };
      up_to = All-push (λ g. EndsBy p.item g.items) front f (All-front (λ g. EndsBy p.item g.items) front last ends) (ends_by-only p.item f.items also);
    })

-- ---- all of them

-- what fragments cover is what they have for all items, and by item
covered_cases : (items : ItemSet) (vector : List Name) (i v : Name) → (has_item items i && is_listed vector v) ≡ ((is_all items && is_listed vector v) || (is_named items i && is_listed vector v))
covered_cases items vector i v = grind (arith, or_nothing)

or_interchange : (a b c d : Bool) → ((a || b) || (c || d)) ≡ ((a || c) || (b || d))
or_interchange a b c d = grind arith

pub all_covered-parts : (fs : List (Fragment (List Name))) (i v : Name) → all_covered is_listed fs i v ≡ (had_for_all fs v || had_by_item fs i v)
all_covered-parts [] i v = refl
all_covered-parts (f ∷ fs) i v = grind (arith, all_covered-parts fs i v, covered_cases, or_interchange)

-- ---- the pairs that are left

below_from_less : (a b : Ordering) → ordering_then a b ≡ Less → is_gt a ≡ false
below_from_less a b less = grind arith

ends_by-later : (i j : Name) (items : ItemSet) → is_gt (name_cmp i j) ≡ false → EndsBy i items → EndsBy j items
ends_by-later i j AllItems below ends = tt
ends_by-later i j (Listed items) below ends = All-weaker (λ k. is_gt (name_cmp k i) ≡ false) (λ k. is_gt (name_cmp k j) ≡ false) (λ k under. upto names_total k i j under below) items.items ends

-- fragments that end by a pair's item end by those of the pairs after it
pub ends_by-rest : (p : Pair) (rest : List Pair) (fs : List (Fragment (List Name))) → IsStrictlySortedBy pair_cmp (p ∷ rest) → All (λ f. EndsBy p.item f.items) fs → All (λ q. All (λ f. EndsBy q.item f.items) fs) rest
ends_by-rest p rest fs sorted ends = grind (arith, All-weaker, ends_by-later, below_from_less, All-from_recursion, sorted_head)
