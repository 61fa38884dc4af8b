use Rattle.std.proofs.Common.{inl, inr, ◌⊎◌, ◌≡◌, ◌<◌, ◌≤◌, ◌+◌, ◌-◌, ℕ, true, false, nat_lt, refl, ap, sym, ◌∙◌, arith, List, [], ◌∷◌, ◌++◌, length, get_or, take, drop, set, suc, zero, add-one, length-append, length-drop}
use Rattle.mr_concise.proofs.Names.{AreApart, Hole, IsNonDecreasingBy, IsPartitionPoint, IsRising, cases_lt, filled, gap, get_or_default, hole_edges, le-leb}
use Rattle.mr_concise.proofs.Names.{le-ltb, length-take-le, lt-leb, lt-ltb, ltb-false, ltb-true}

last-above : (low : ℕ) (holes : List Hole) (end j : ℕ) (d : Hole) → IsRising low (hole_edges holes ++ end ∷ []) → j < length holes → low ≤ (get_or holes j d).last
last-above low [] end j d r l = absurd (omega arith)
last-above low (h ∷ hs) end zero d r l = let a = r.0 in let b = r.1.0 in omega arith
last-above low (h ∷ hs) end (suc j) d r l = let a = r.0 in let b = r.1.0 in let ih = last-above (h.last + 1) hs end j d r.1.1 (omega arith) in omega arith

pub lasts-rise : (low : ℕ) (holes : List Hole) (end : ℕ) → IsRising low (hole_edges holes ++ end ∷ []) → IsNonDecreasingBy (λ h. h.last) holes
lasts-rise low [] end r i j d h l = absurd (omega arith)
lasts-rise low (x ∷ xs) end r zero zero d h l = omega arith
lasts-rise low (x ∷ xs) end r zero (suc j) d h l = let q = last-above (x.last + 1) xs end j d r.1.1 (omega arith) in omega arith
lasts-rise low (x ∷ xs) end r (suc i) zero d h l = absurd (omega arith)
lasts-rise low (x ∷ xs) end r (suc i) (suc j) d h l = lasts-rise (x.last + 1) xs end r.1.1 i j d (omega arith) (omega arith)

pub same-last : (hs : List Hole) (i : ℕ) (d e : Hole) → i < length hs → (get_or hs i d).last ≡ (get_or hs i e).last
same-last hs i d e l = ap (λ (h : Hole). h.last) (get_or_default hs i d e l)

-- a place whose hole before it ends below k, and whose own does not
pub place-between : (hs : List Hole) (i k : ℕ) → IsNonDecreasingBy (λ h. h.last) hs → i ≤ length hs → ((d : Hole) → 0 < i → (get_or hs (i - 1) d).last < k) → ((d : Hole) → i < length hs → k ≤ (get_or hs i d).last) → IsPartitionPoint (λ h. nat_lt h.last k ≡ true) (λ h. nat_lt h.last k ≡ false) hs i
place-between hs i k rise le before from = (
  λ j d z l. let some : 0 < i = omega arith in let up = rise j (i - 1) d (omega arith) (omega arith) in let b = before d some in let lt : (get_or hs j d).last < k = omega arith in lt-ltb (get_or hs j d).last k lt,
  λ j d f l. let up = rise i j d f l in let b = from d (omega arith) in let ge : k ≤ (get_or hs j d).last = omega arith in le-ltb (get_or hs j d).last k ge,
)

set-is : (hs : List Hole) (i : ℕ) (x : Hole) → i < length hs → set hs i x ≡ take i hs ++ x ∷ drop (suc i) hs
set-is [] i x l = absurd (omega arith)
set-is (h ∷ hs) zero x l = refl
set-is (h ∷ hs) (suc i) x l = ap (λ ys. h ∷ ys) (set-is hs i x (omega arith))

pub set-left : (hs : List Hole) (i f k l : ℕ) → i < length hs → f ≤ k - 1 → l < k + 1 → set hs i (record { first = f; last = k - 1 }) ≡ take i hs ++ (gap f (k - 1) ++ (gap (k + 1) l ++ drop (i + 1) hs))
set-left hs i f k l h a b = rw (le-leb f (k - 1) a, lt-leb (k + 1) l b, add-one i) (set-is hs i (record { first = f; last = k - 1 }) h)

pub set-right : (hs : List Hole) (i f k l : ℕ) → i < length hs → k - 1 < f → k + 1 ≤ l → set hs i (record { first = k + 1; last = l }) ≡ take i hs ++ (gap f (k - 1) ++ (gap (k + 1) l ++ drop (i + 1) hs))
set-right hs i f k l h a b = rw (lt-leb f (k - 1) a, le-leb (k + 1) l b, add-one i) (set-is hs i (record { first = k + 1; last = l }) h)

pub set-both : (hs : List Hole) (i f k l : ℕ) → i < length hs → f ≤ k - 1 → k + 1 ≤ l → set (take (i + 1) hs ++ (record { first = k + 1; last = l }) ∷ drop (i + 1) hs) i (record { first = f; last = k - 1 }) ≡ take i hs ++ (gap f (k - 1) ++ (gap (k + 1) l ++ drop (i + 1) hs))
set-both hs i f k l h a b = rw (le-leb f (k - 1) a, le-leb (k + 1) l b, add-one i) (go hs i (record { first = k + 1; last = l }) (record { first = f; last = k - 1 }) h)
  where
    go : (hs : List Hole) (i : ℕ) (r x : Hole) → i < length hs → set (take (suc i) hs ++ r ∷ drop (suc i) hs) i x ≡ take i hs ++ (x ∷ (r ∷ drop (suc i) hs))
    go [] i r x l = absurd (omega arith)
    go (h ∷ hs) zero r x l = refl
    go (h ∷ hs) (suc i) r x l = ap (λ ys. h ∷ ys) (go hs i r x (omega arith))

-- the hole at the place is the one that has k, or none has it
pub filled-at : (k : ℕ) (hs : List Hole) (i : ℕ) (x : Hole) → ((j : ℕ) (d : Hole) → 0 ≤ j → j < i → nat_lt (get_or hs j d).last k ≡ true) → i < length hs → x ≡ get_or hs i x → k ≤ x.last → x.first ≤ k → ((j : ℕ) (d : Hole) → j < i → (get_or hs j d).first ≤ (get_or hs j d).last) → filled k hs ≡ take i hs ++ (gap x.first (k - 1) ++ (gap (k + 1) x.last ++ drop (i + 1) hs))
filled-at k [] i x before l at ge le ordered = absurd (omega arith)
filled-at k (h ∷ hs) zero x before l at ge le ordered =
    let f : x.first ≡ h.first = ap (λ (z : Hole). z.first) at in
    let g : x.last ≡ h.last = ap (λ (z : Hole). z.last) at in
    let a : h.first ≤ k = omega arith in let b : k ≤ h.last = omega arith in
    rw (le-ltb k h.first a, le-ltb h.last k b, f, g) refl
filled-at k (h ∷ hs) (suc i) x before l at ge le ordered =
    let past : h.last < k = ltb-true h.last k (before 0 h (omega arith) (omega arith)) in
    let from : h.first ≤ k = let o = ordered 0 h (omega arith) in omega arith in
    rw (le-ltb k h.first from, lt-ltb h.last k past, add-one (suc i)) (ap (λ ys. h ∷ ys) (rw (add-one i) at (filled-at k hs i x (λ j d z w. before (suc j) d (omega arith) (omega arith)) (omega arith) at ge le (λ j d w. ordered (suc j) d (omega arith)))))

-- no hole has k
pub filled-none : (k low : ℕ) (hs : List Hole) (end i : ℕ) → IsRising low (hole_edges hs ++ end ∷ []) → ((j : ℕ) (d : Hole) → 0 ≤ j → j < i → nat_lt (get_or hs j d).last k ≡ true) → ((d : Hole) → i < length hs → k < (get_or hs i d).first) → i ≤ length hs → filled k hs ≡ hs
filled-none k low [] end i r before at l = refl
filled-none k low (h ∷ hs) end zero r before at l = rw (lt-ltb k h.first (at h (omega arith))) refl
filled-none k low (h ∷ hs) end (suc i) r before at l =
    let past : h.last < k = ltb-true h.last k (before 0 h (omega arith) (omega arith)) in
    let from : h.first ≤ k = let o = r.1.0 in omega arith in
    rw (le-ltb k h.first from, lt-ltb h.last k past) (ap (λ ys. h ∷ ys) (filled-none k (h.last + 1) hs end i r.1.1 (λ j d z w. before (suc j) d (omega arith) (omega arith)) (λ d w. at d (omega arith)) (omega arith)))

ordered-at : (low : ℕ) (hs : List Hole) (end j : ℕ) (d : Hole) → IsRising low (hole_edges hs ++ end ∷ []) → j < length hs → (get_or hs j d).first ≤ (get_or hs j d).last
ordered-at low [] end j d r l = absurd (omega arith)
ordered-at low (h ∷ hs) end zero d r l = let a = r.1.0 in omega arith
ordered-at low (h ∷ hs) end (suc j) d r l = ordered-at (h.last + 1) hs end j d r.1.1 (omega arith)

-- what a place in the holes says of k
pub filled-place : (k : ℕ) (hs : List Hole) (i : ℕ) (x : Hole) → AreApart hs → IsPartitionPoint (λ h. nat_lt h.last k ≡ true) (λ h. nat_lt h.last k ≡ false) hs i → i < length hs → x ≡ get_or hs i x → x.first ≤ k → filled k hs ≡ take i hs ++ (gap x.first (k - 1) ++ (gap (k + 1) x.last ++ drop (i + 1) hs))
filled-place k hs i x apart place l at le = grind (arith, ltb-false, filled-at, ordered-at)

pub filled-above : (k : ℕ) (hs : List Hole) (i : ℕ) (x : Hole) → AreApart hs → IsPartitionPoint (λ h. nat_lt h.last k ≡ true) (λ h. nat_lt h.last k ≡ false) hs i → i < length hs → x ≡ get_or hs i x → k < x.first → filled k hs ≡ hs
filled-above k hs i x apart place l at lt = filled-none k 0 hs apart.end i apart.apart place.0 (λ d w. let e : (get_or hs i d).first ≡ x.first = ap (λ (z : Hole). z.first) (get_or_default hs i d x l ∙ sym at) in omega arith) (omega arith)

pub filled-past : (k : ℕ) (hs : List Hole) (i : ℕ) → AreApart hs → IsPartitionPoint (λ h. nat_lt h.last k ≡ true) (λ h. nat_lt h.last k ≡ false) hs i → length hs ≤ i → i ≤ length hs → filled k hs ≡ hs
filled-past k hs i apart place l u = filled-none k 0 hs apart.end i apart.apart place.0 (λ d w. absurd (omega arith)) u

length-gap : (f l : ℕ) → (l < f) × (length (gap f l) ≡ 0) ⊎ ((f ≤ l) × (length (gap f l) ≡ 1))
length-gap f l = grind (arith, cases_lt, lt-leb, le-leb)

-- how many holes a split leaves
pub split-count : (k : ℕ) (hs : List Hole) (i : ℕ) (x : Hole) (left right : ℕ) → AreApart hs → IsPartitionPoint (λ h. nat_lt h.last k ≡ true) (λ h. nat_lt h.last k ≡ false) hs i → i < length hs → x ≡ get_or hs i x → x.first ≤ k → 1 ≤ k → (x.first < k → left ≡ 1) → (k ≤ x.first → left ≡ 0) → (k < x.last → right ≡ 1) → (x.last ≤ k → right ≡ 0) → length hs - 1 + left + right ≡ length (filled k hs)
split-count k hs i x left right apart place l at le one l1 l0 r1 r0 =
    rw (filled-place k hs i x apart place l at le) (
    let a = length-append (take i hs) (gap x.first (k - 1) ++ (gap (k + 1) x.last ++ drop (i + 1) hs)) in
    let b = length-append (gap x.first (k - 1)) (gap (k + 1) x.last ++ drop (i + 1) hs) in
    let c = length-append (gap (k + 1) x.last) (drop (i + 1) hs) in
    let d = length-take-le i hs (omega arith) in
    let e = length-drop (i + 1) hs in
    let g = length-gap x.first (k - 1) in
    let h = length-gap (k + 1) x.last in
    go (length hs) i k x.first x.last left right (length (take i hs)) (length (drop (i + 1) hs)) (length (gap x.first (k - 1))) (length (gap (k + 1) x.last)) l one d e g h l1 l0 r1 r0 ∙ sym (a ∙ ap (λ n. length (take i hs) + n) (b ∙ ap (λ n. length (gap x.first (k - 1)) + n) c)))
  where
    go : (n i k f l left right t d g h : ℕ) → i < n → 1 ≤ k → t ≡ i → d ≡ n - (i + 1) → (k - 1 < f) × (g ≡ 0) ⊎ ((f ≤ k - 1) × (g ≡ 1)) → (l < k + 1) × (h ≡ 0) ⊎ ((k + 1 ≤ l) × (h ≡ 1)) → (f < k → left ≡ 1) → (k ≤ f → left ≡ 0) → (k < l → right ≡ 1) → (l ≤ k → right ≡ 0) → n - 1 + left + right ≡ t + (g + (h + d))
    go n i k f l left right t d g h b one e c (inl p) (inl q) l1 l0 r1 r0 = let x = l0 (omega arith) in let y = r0 (omega arith) in omega arith
    go n i k f l left right t d g h b one e c (inl p) (inr q) l1 l0 r1 r0 = let x = l0 (omega arith) in let y = r1 (omega arith) in omega arith
    go n i k f l left right t d g h b one e c (inr p) (inl q) l1 l0 r1 r0 = let x = l1 (omega arith) in let y = r0 (omega arith) in omega arith
    go n i k f l left right t d g h b one e c (inr p) (inr q) l1 l0 r1 r0 = let x = l1 (omega arith) in let y = r1 (omega arith) in omega arith
