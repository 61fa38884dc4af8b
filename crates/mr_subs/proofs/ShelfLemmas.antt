-- shelves after one write
use Rattle.std.proofs.Common.{◌≡◌, ℕ, Bool, true, false, cond, ◌&&◌, refl, ap, sym, ◌∙◌, List, Some, None}
use Rattle.mr_subs.proofs.Names.{BTreeSet, Equal, Greater, Less, Name, Ordering, is_eq, is_listed, is_place, name_eq, on_shelf, set_has, shelf, text_cmp}
use Rattle.std.proofs.lemmas.Map.Lookups.{exact_bytes}

equal_of : (o : Ordering) → is_eq o ≡ true → o ≡ Equal
equal_of Less h = cc
equal_of Equal h = refl
equal_of Greater h = cc

-- labels that compare alike are one
pub same_label : (label q : List ℕ) → is_eq (text_cmp label q) ≡ true → label ≡ q
same_label label q h = exact_bytes label q (equal_of (text_cmp label q) h)

-- a label's set that differs at one version
pub on_shelf-written : (m n : List (List ℕ × BTreeSet Name)) (label : List ℕ) (version : Name) (here : Bool) (w : BTreeSet Name) →
    ((q : List ℕ) → shelf n q ≡ cond (is_eq (text_cmp label q)) (Some w) (shelf m q)) →
    ((v : Name) → is_listed w.keys v ≡ cond (name_eq version v) here (set_has (shelf m label) v)) →
    (q : List ℕ) (v : Name) → on_shelf n q v ≡ cond (is_place label version q v) here (on_shelf m q v)
on_shelf-written m n label version here w h k q v = ap (λ s. set_has s v) (h q) ∙ cases (is_eq (text_cmp label q)) refl
  where
    cases : (b : Bool) → is_eq (text_cmp label q) ≡ b → set_has (cond b (Some w) (shelf m q)) v ≡ cond (b && name_eq version v) here (on_shelf m q v)
    cases true e = k v ∙ ap (λ l. cond (name_eq version v) here (set_has (shelf m l) v)) (same_label label q e)
    cases false e = refl

-- a label's set that is as before
pub on_shelf-same : (m n : List (List ℕ × BTreeSet Name)) (label : List ℕ) (w : BTreeSet Name) →
    ((q : List ℕ) → shelf n q ≡ cond (is_eq (text_cmp label q)) (Some w) (shelf m q)) →
    ((v : Name) → is_listed w.keys v ≡ set_has (shelf m label) v) →
    (q : List ℕ) (v : Name) → on_shelf n q v ≡ on_shelf m q v
on_shelf-same m n label w h k q v = ap (λ s. set_has s v) (h q) ∙ cases (is_eq (text_cmp label q)) refl
  where
    cases : (b : Bool) → is_eq (text_cmp label q) ≡ b → set_has (cond b (Some w) (shelf m q)) v ≡ on_shelf m q v
    cases true e = k v ∙ ap (λ l. set_has (shelf m l) v) (same_label label q e)
    cases false e = refl

-- a label with no set has no version
pub on_shelf-none : (m : List (List ℕ × BTreeSet Name)) (label : List ℕ) (version : Name) → shelf m label ≡ None →
    (q : List ℕ) (v : Name) → on_shelf m q v ≡ cond (is_place label version q v) false (on_shelf m q v)
on_shelf-none m label version h q v = cases (is_eq (text_cmp label q)) refl (name_eq version v)
  where
    cases : (b : Bool) → is_eq (text_cmp label q) ≡ b → (c : Bool) → on_shelf m q v ≡ cond (b && c) false (on_shelf m q v)
    cases true e true = ap (λ l. set_has (shelf m l) v) (sym (same_label label q e)) ∙ ap (λ s. set_has s v) h
    cases true e false = refl
    cases false e c = refl
