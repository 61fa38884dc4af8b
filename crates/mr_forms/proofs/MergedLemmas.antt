-- fragments that are merged one after the other
use Rattle.std.proofs.Common.{◌≡◌, ◌↔◌, ◌||◌, ◌<◌, ◌+◌, IsErrOf, ℕ, suc, Bool, refl, sym, ap, subst, ◌∙◌, List, [], ◌∷◌, ◌++◌, length, take, get_or, drop, Result, Ok, Err, inl, inr, arith}
use Rattle.mr_forms.proofs.Names.{All, All-append, All-cons, All-head, All-nil, All-tail, AreSame, Form, Fragment, HasValue, IsOnlyOverItems, Name, Pairs}
use Rattle.mr_forms.proofs.Names.{Versions, all_covered, covered, drop-cons, take-append-drop, take_more, with_pairs}
use Rattle.mr_forms.specs.declared.fault.FormFault.{FormFault}
use Rattle.mr_forms.specs.declared.fault.FormFault.TheVariants as fault
use Rattle.mr_forms.specs.Merged.{after_each, AreOverHolesInTurn, AreOverItemsInTurn}

-- pairs that are the same are one
pub same_pairs : (s t : Pairs) → AreSame s t → s ≡ t
same_pairs s t h = λ i a b. h a b i

module _ {V : Type 0} (has : V → Versions) where
  -- what is known after all of them
  abbrev pub after_all : Pairs → List (Fragment V) → Pairs
  after_all known [] = known
  after_all known (f ∷ fs) = after_all (with_pairs known (covered has f)) fs

  pub after_all-more : (known : Pairs) (fs : List (Fragment V)) (f : Fragment V) → after_all known (fs ++ f ∷ []) ≡ with_pairs (after_all known fs) (covered has f)
  after_all-more known [] f = refl
  after_all-more known (g ∷ gs) f = after_all-more (with_pairs known (covered has g)) gs f

  pub after_each-append : (known : Pairs) (xs ys : List (Fragment V)) → after_each has known (xs ++ ys) ≡ after_each has known xs ++ after_each has (after_all known xs) ys
  after_each-append known [] ys = refl
  after_each-append known (x ∷ xs) ys = ap (λ (ps : List Pairs). with_pairs known (covered has x) ∷ ps) (after_each-append (with_pairs known (covered has x)) xs ys)

  three : (a b c : Bool) → (b || (a || c)) ≡ ((a || b) || c)
  three a b c = grind arith

  -- all of them together
  pub after_all-same : (known : Pairs) (fs : List (Fragment V)) (i v : Name) → after_all known fs i v ≡ with_pairs known (all_covered has fs) i v
  after_all-same known [] i v = refl
  after_all-same known (f ∷ fs) i v =
      after_all-same (with_pairs known (covered has f)) fs i v
      ∙ three (covered has f i v) (all_covered has fs i v) (known i v)

module _ {K : Type 0} (form : Form K) where
  -- the first that has no value is behind those that have one
  pub holes_behind : (ps qs : List Pairs) (p : Pairs) → All (HasValue form) ps → form.has_too_many_holes p → AreOverHolesInTurn form (ps ++ p ∷ qs)
  holes_behind [] qs p fits over = inl over
  holes_behind (x ∷ xs) qs p fits over = inr (All-head (HasValue form) x xs fits, holes_behind xs qs p (All-tail (HasValue form) x xs fits) over)

  pub items_behind : (ps qs : List Pairs) (p : Pairs) → All (HasValue form) ps → IsOnlyOverItems form p → AreOverItemsInTurn form (ps ++ p ∷ qs)
  items_behind [] qs p fits over = inl over
  items_behind (x ∷ xs) qs p fits over = inr (All-head (HasValue form) x xs fits, items_behind xs qs p (All-tail (HasValue form) x xs fits) over)

  module _ {V : Type 0} (has : V → Versions) (known : Pairs) (old : K) (xs : List (Fragment V)) (f : Fragment V) (is : AreSame (form.known old) (after_all has known xs)) where
    -- the next of what is known
    pub next_pairs : with_pairs (form.known old) (covered has f) ≡ with_pairs (after_all has known xs) (covered has f)
    next_pairs = ap (λ (p : Pairs). with_pairs p (covered has f)) (same_pairs (form.known old) (after_all has known xs) is)

    -- once it is merged, that is known
    pub merged_next : (new : K) → AreSame (form.known new) (with_pairs (form.known old) (covered has f)) → AreSame (form.known new) (after_all has known (xs ++ f ∷ []))
    merged_next new ok = subst (AreSame (form.known new)) (next_pairs ∙ sym (after_all-more has known xs f)) ok

    module _ (made : Result (Unit {0}) FormFault) (fits : All (HasValue form) (after_each has known xs)) (holes : IsErrOf made fault.TooManyHoles ↔ form.has_too_many_holes (with_pairs (form.known old) (covered has f)))
        (items : IsErrOf made fault.TooManyItems ↔ IsOnlyOverItems form (with_pairs (form.known old) (covered has f))) where
      value_there : made ≡ Ok tt → HasValue form (with_pairs (form.known old) (covered has f))
      value_there ok = grind arith

      -- where it is merged, all up to it have a value
      pub fits_next : made ≡ Ok tt → All (HasValue form) (after_each has known (xs ++ f ∷ []))
      fits_next ok =
          let next : HasValue form (with_pairs (after_all has known xs) (covered has f)) = subst (HasValue form) next_pairs (value_there ok) in
          subst (All (HasValue form)) (sym (after_each-append has known xs (f ∷ [])))
          (All-append (HasValue form) (after_each has known xs) (with_pairs (after_all has known xs) (covered has f) ∷ []) fits (All-cons (HasValue form) (with_pairs (after_all has known xs) (covered has f)) [] next (All-nil (HasValue form))))

      -- else the first fault is there
      pub holes_there : made ≡ Err fault.TooManyHoles → (us : List (Fragment V)) → AreOverHolesInTurn form (after_each has known (xs ++ f ∷ us))
      holes_there err us = grind (arith, after_each-append, holes_behind, next_pairs)

      pub items_there : made ≡ Err fault.TooManyItems → (us : List (Fragment V)) → AreOverItemsInTurn form (after_each has known (xs ++ f ∷ us))
      items_there err us = grind (arith, after_each-append, items_behind, next_pairs)

-- ---- fragments up to a place

pub split_at : {T : Type 0} → (xs : List T) (k : ℕ) (x : T) → k < length xs → x ≡ get_or xs k x → xs ≡ take k xs ++ x ∷ drop (suc k) xs
split_at xs k x within at = grind (arith, take-append-drop, drop-cons)

pub take_next : {T : Type 0} → (xs : List T) (k : ℕ) (x : T) → k < length xs → x ≡ get_or xs k x → take (k + 1) xs ≡ take k xs ++ x ∷ []
take_next xs k x within at = take_more xs k x within ∙ ap (λ y. take k xs ++ y ∷ []) (sym at)
