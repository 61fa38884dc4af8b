-- labels in lists, and what one write leaves on the other shelves
use Rattle.std.proofs.Common.{◌≡◌, ℕ, ◌+◌, ◌<◌, ◌⊎◌, inl, inr, Bool, true, false, cond, ◌&&◌, ◌||◌, IsTrue, IsFalse, refl, ap, sym, ◌∙◌, List, [], ◌∷◌, ◌++◌, take, length, get_or, add-one}
use Rattle.std.proofs.Math.Seq.{take-suc}
use Rattle.std.proofs.lemmas.List.Folds.{list_any-append}
use Rattle.std.proofs.lemmas.Cmp.{tied_itself}
use Rattle.mr_subs.proofs.Names.{Name, has_label, is_eq, is_place, name_eq, names_total, text_cmp, text_eq}
use Rattle.std.specs.Cmp.Lexicographic.{texts_ties, nat_list_cmp_total}
use Rattle.mr_subs.proofs.ShelfLemmas.{same_label}

either : (a b : Bool) → (a || (b || false)) ≡ true → (a ≡ true) ⊎ (b ≡ true)
either true b h = inl refl
either false true h = inr refl
either false false h = cc

-- among one label more stands that label, or one that stood there
pub has_label-take_more : (labels : List (List ℕ)) (i : ℕ) (x q : List ℕ) → i < length labels → x ≡ get_or labels i x → IsTrue (has_label (take (i + 1) labels) q) → IsTrue (has_label (take i labels) q) ⊎ (q ≡ x)
has_label-take_more labels i x q h e p = elim (either (has_label (take i labels) q) (text_eq q x) split) [
  | inl a ↦ inl a
  | inr b ↦ inr (same_label q x (sym (texts_ties q x) ∙ b))
]
  where
    split : (has_label (take i labels) q || (text_eq q x || false)) ≡ true
    split =
        sym (ap (λ n. has_label (take n labels) q) (add-one i)
        ∙ ap (λ ls. has_label ls q) (take-suc labels i x h)
        ∙ ap (λ y. has_label (take i labels ++ y ∷ []) q) (sym e)
        ∙ list_any-append (text_eq q) (take i labels) (x ∷ []))
        ∙ p

-- a place is itself
pub is_place-itself : (label : List ℕ) (version : Name) → is_place label version label version ≡ true
is_place-itself label version =
    ap (λ o. is_eq o && name_eq version version) (tied_itself nat_list_cmp_total label)
    ∙ ap is_eq (tied_itself names_total version)

-- another label is another place
pub is_place-other_label : (labels : List (List ℕ)) (label q : List ℕ) (version v : Name) → has_label labels label ≡ false → IsTrue (has_label labels q) → is_place label version q v ≡ false
is_place-other_label labels label q version v absent present = cases (is_eq (text_cmp label q)) refl
  where
    clash : label ≡ q → ⊥
    clash e = let same : true ≡ false = sym present ∙ (ap (has_label labels) (sym e) ∙ absent) in cc

    cases : (b : Bool) → is_eq (text_cmp label q) ≡ b → (b && name_eq version v) ≡ false
    cases true e = absurd (clash (same_label label q e))
    cases false e = refl

-- another version is at another place
pub is_place-other_version : (label q : List ℕ) (version v : Name) → IsFalse (name_eq version v) → is_place label version q v ≡ false
is_place-other_version label q version v h = cases (is_eq (text_cmp label q))
  where
    cases : (b : Bool) → (b && name_eq version v) ≡ false
    cases true = h
    cases false = refl

-- what stood on a shelf stays where a place is filled
pub stays-filled : (place old new : Bool) → new ≡ cond place true old → IsTrue old → IsTrue new
stays-filled true old new e h = e
stays-filled false old new e h = e ∙ h

-- and where another place is emptied
pub stays-emptied : (place old new : Bool) → new ≡ cond place false old → place ≡ false → IsTrue old → IsTrue new
stays-emptied true old new e n h = cc
stays-emptied false old new e n h = e ∙ h
