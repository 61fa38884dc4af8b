use Rattle.std.proofs.Common.{◌≡◌, ◌<◌, ◌+◌, ℕ, zero, suc, false, List, [], ◌∷◌, length, take, get_or, All, AllPairs, refl, ap, ◌∙◌, add-one, arith}
use Rattle.mr_itemset.proofs.Names.{All-cons, All-get_or, All-head, All-nil, All-tail, All-weaker, AllPairs-head, AllPairs-tail, Less, Name, is_eq, list_any}
use Rattle.mr_itemset.proofs.Names.{name_cmp, name_eq, name_eq-symmetric, names_total}
use Rattle.std.proofs.lemmas.List.Kept.{AllPairs-cons}

-- ---- rising items

pub lower_none : (items : List Name) (item : Name) → All (λ x. name_cmp x item ≡ Less) items → list_any (name_eq item) items ≡ false
lower_none [] item low = refl
lower_none (x ∷ xs) item low = rw (name_eq-symmetric item x ∙ ap is_eq (All-head (λ y. name_cmp y item ≡ Less) x xs low)) (lower_none xs item (All-tail (λ y. name_cmp y item ≡ Less) x xs low))

-- each item is lower than the next one
abbrev pub StepsUp : List Name → ℕ → Type 0
StepsUp items n = (k : ℕ) (d : Name) → k + 1 < n → name_cmp (get_or items k d) (get_or items (k + 1) d) ≡ Less

pub steps_up : (items : List Name) → StepsUp items (length items) → AllPairs (λ x y. name_cmp x y ≡ Less) items
steps_up [] steps i j d less within = absurd (omega arith)
steps_up (x ∷ []) steps i j d less within = absurd (omega arith)
steps_up (x ∷ (y ∷ ys)) steps i j d less within =
    let rest = steps_up (y ∷ ys) (λ k d within. rw (add-one k) (rw (add-one (suc k)) at (steps (suc k) d (omega arith)))) in
    let first : name_cmp x y ≡ Less = steps 0 x (omega arith) in
    AllPairs-cons (λ a b. name_cmp a b ≡ Less) x (y ∷ ys) (All-cons (λ b. name_cmp x b ≡ Less) y ys first (All-weaker (λ b. name_cmp y b ≡ Less) (λ b. name_cmp x b ≡ Less) (λ b after. names_total.trans x y b first after) ys (AllPairs-head (λ a b. name_cmp a b ≡ Less) y ys rest))) rest i j d less within

pub all_before : (items : List Name) (k : ℕ) (item : Name) → AllPairs (λ x y. name_cmp x y ≡ Less) items → k < length items → item ≡ get_or items k item → All (λ x. name_cmp x item ≡ Less) (take k items)
all_before [] k item rising within is = absurd (omega arith)
all_before (y ∷ ys) zero item rising within is = All-nil (λ z. name_cmp z item ≡ Less)
all_before (y ∷ ys) (suc k) item rising within is =
    All-cons (λ z. name_cmp z item ≡ Less) y (take k ys) (rw is (All-get_or (λ b. name_cmp y b ≡ Less) ys k item (omega arith) (AllPairs-head (λ a b. name_cmp a b ≡ Less) y ys rising)))
    (all_before ys k item (AllPairs-tail (λ a b. name_cmp a b ≡ Less) y ys rising) (omega arith) is)
