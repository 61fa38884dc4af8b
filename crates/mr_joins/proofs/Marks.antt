-- what marks say
use Rattle.std.proofs.Common.{◌≡◌, ℕ, zero, suc, drop-cons, ◌+◌, ◌<◌, ◌≤◌, max, length, get_or, set, drop, Bool, true, false, cond, not, List, [], ◌∷◌, ◌++◌, refl, sym, ◌∙◌, ap, subst, arith}
use Rattle.std.specs.List.{AllByRecursion, position_or_len, insert, position}
use Rattle.std.specs.Prelude.{Some, None, nat_lt}
use Rattle.std.proofs.Math.Numerals.{one-add, add-one}
use Rattle.std.proofs.lemmas.List.{get_or_read}
use Rattle.std.proofs.lemmas.Bool.{false≢true}
use Rattle.std.proofs.lemmas.Bool.Decides.{nat_tests}
use Rattle.std.proofs.lemmas.List.Quantifiers.{position-Some}
use Rattle.std.specs.List.Sorted.{IsStrictlySortedBy}
use Rattle.std.specs.Ordering.{is_eq, is_le, match_ordering}
use Rattle.std.specs.declared.cmp.Ordering.{Ordering}
use Rattle.std.specs.declared.cmp.Ordering.TheVariants.{Less, Equal, Greater}
use Rattle.mr_joins.specs.declared.count.Count.{Count}
use Rattle.mr_joins.specs.declared.mark.Mark.{Mark}
use Rattle.mr_joins.specs.Count.{never, larger}
use Rattle.mr_joins.specs.Value.{Key, key_cmp, key_of, mark_cmp, is_of, says, said_by, IsMark, with_mark, join}
use Rattle.mr_joins.specs.inner.Value.{is_from}
use Rattle.mr_joins.proofs.Keys.{exact_keys, key_is, tie, is_of-own, marks_total, turned, not_of, less_not_equal}

-- ---- the greater of two counts

pub larger_assoc : (a b c : Count) → larger (larger a b) c ≡ larger a (larger b c)
larger_assoc a b c =
    let raised : max (max a.raised b.raised) c.raised ≡ max a.raised (max b.raised c.raised) = omega arith in
    let gone : max (max a.gone b.gone) c.gone ≡ max a.gone (max b.gone c.gone) = omega arith in
    λ i. record { raised = raised i; gone = gone i }

pub larger_comm : (a b : Count) → larger a b ≡ larger b a
larger_comm a b =
    let raised : max a.raised b.raised ≡ max b.raised a.raised = omega arith in
    let gone : max a.gone b.gone ≡ max b.gone a.gone = omega arith in
    λ i. record { raised = raised i; gone = gone i }

pub larger_never : (a : Count) → larger a never ≡ a
larger_never a =
    let raised : max a.raised 0 ≡ a.raised = omega arith in
    let gone : max a.gone 0 ≡ a.gone = omega arith in
    λ i. record { raised = raised i; gone = gone i }

pub never_larger : (a : Count) → larger never a ≡ a
never_larger a = larger_comm never a ∙ larger_never a

-- ---- a mark put among others

-- a mark with the greater of each count
abbrev pub with_larger : Mark → Mark → Mark
with_larger own m = record own { count = larger own.count m.count }

at_of : Ordering → ℕ → ℕ
at_of o n = cond (not (is_le o)) (suc n) 0

-- the first place of a mark that doesn't stand before this one
place_of : Mark → List Mark → ℕ
place_of m [] = 0
place_of m (x ∷ xs) = at_of (mark_cmp m x) (place_of m xs)

place_is : (m : Mark) (xs : List Mark) → position_or_len (is_from m) xs ≡ place_of m xs
unfolding place_of at_of
place_is m [] = refl
place_is m (x ∷ xs) = ap (λ (n : ℕ). cond (not (is_from m x)) n 0) (one-add (position_or_len (is_from m) xs) ∙ ap suc (place_is m xs))

position_is : (m : Mark) (xs : List Mark) (i : ℕ) → position (is_from m) xs ≡ Some i → i ≡ place_of m xs
position_is m xs i h = cases (nat_lt (position_or_len (is_from m) xs) (length xs)) h ∙ place_is m xs
  where
    cases : (b : Bool) → cond b (Some (position_or_len (is_from m) xs)) None ≡ Some i → i ≡ position_or_len (is_from m) xs
    cases true h = cc
    cases false h = cc

none_before : (m : Mark) (xs : List Mark) → position (is_from m) xs ≡ None → length xs ≤ place_of m xs
none_before m xs h = subst (λ (n : ℕ). length xs ≤ n) (place_is m xs) (cases (nat_lt (position_or_len (is_from m) xs) (length xs)) refl h)
  where
    cases : (b : Bool) → nat_lt (position_or_len (is_from m) xs) (length xs) ≡ b → cond b (Some (position_or_len (is_from m) xs)) None ≡ None → length xs ≤ position_or_len (is_from m) xs
    cases true e h = cc
    cases false e h = grind (arith, nat_tests)

set_at_place : (m : Mark) (xs : List Mark) (d : Mark) → place_of m xs < length xs → mark_cmp m (get_or xs (place_of m xs) d) ≡ Equal →
    set xs (place_of m xs) (with_larger (get_or xs (place_of m xs) d) m) ≡ with_mark m xs
unfolding place_of at_of
set_at_place m [] d h e = absurd (omega arith)
set_at_place m (x ∷ xs) d h e = cases (set_at_place m xs d) (mark_cmp m x) refl h e
  where
    cases : (place_of m xs < length xs → mark_cmp m (get_or xs (place_of m xs) d) ≡ Equal → set xs (place_of m xs) (with_larger (get_or xs (place_of m xs) d) m) ≡ with_mark m xs) →
        (o : Ordering) → mark_cmp m x ≡ o → at_of o (place_of m xs) < suc (length xs) → mark_cmp m (get_or (x ∷ xs) (at_of o (place_of m xs)) d) ≡ Equal →
        set (x ∷ xs) (at_of o (place_of m xs)) (with_larger (get_or (x ∷ xs) (at_of o (place_of m xs)) d) m) ≡ match_ordering o (m ∷ x ∷ xs) (with_larger x m ∷ xs) (x ∷ with_mark m xs)
    cases rest Less is h e = absurd (less_not_equal (sym is ∙ e))
    cases rest Equal is h e = refl
    cases rest Greater is h e = ap (λ (ys : List Mark). x ∷ ys) (rest (omega arith) e)

insert_at_place : (m : Mark) (xs : List Mark) (d : Mark) → place_of m xs < length xs → (mark_cmp m (get_or xs (place_of m xs) d) ≡ Equal → ⊥) → insert xs (place_of m xs) m ≡ with_mark m xs
unfolding place_of at_of
insert_at_place m [] d h e = absurd (omega arith)
insert_at_place m (x ∷ xs) d h e = cases (insert_at_place m xs d) (mark_cmp m x) refl h e
  where
    cases : (place_of m xs < length xs → (mark_cmp m (get_or xs (place_of m xs) d) ≡ Equal → ⊥) → insert xs (place_of m xs) m ≡ with_mark m xs) →
        (o : Ordering) → mark_cmp m x ≡ o → at_of o (place_of m xs) < suc (length xs) → (mark_cmp m (get_or (x ∷ xs) (at_of o (place_of m xs)) d) ≡ Equal → ⊥) →
        insert (x ∷ xs) (at_of o (place_of m xs)) m ≡ match_ordering o (m ∷ x ∷ xs) (with_larger x m ∷ xs) (x ∷ with_mark m xs)
    cases rest Less is h e = refl
    cases rest Equal is h e = absurd (e is)
    cases rest Greater is h e = ap (λ (ys : List Mark). x ∷ ys) (rest (omega arith) e)

push_behind : (m : Mark) (xs : List Mark) → length xs ≤ place_of m xs → xs ++ m ∷ [] ≡ with_mark m xs
unfolding place_of at_of
push_behind m [] h = refl
push_behind m (x ∷ xs) h = cases (push_behind m xs) (mark_cmp m x) h
  where
    cases : (length xs ≤ place_of m xs → xs ++ m ∷ [] ≡ with_mark m xs) → (o : Ordering) → suc (length xs) ≤ at_of o (place_of m xs) → x ∷ (xs ++ m ∷ []) ≡ match_ordering o (m ∷ x ∷ xs) (with_larger x m ∷ xs) (x ∷ with_mark m xs)
    cases rest Less h = absurd (omega arith)
    cases rest Equal h = absurd (omega arith)
    cases rest Greater h = ap (λ (ys : List Mark). x ∷ ys) (rest (omega arith))

-- the mark there gets the greater of each count, if it is of the key
pub set_there : (m seen own : Mark) (xs : List Mark) (i : ℕ) (count : Count) → position (is_from m) xs ≡ Some i → seen ≡ get_or xs i seen → own ≡ get_or xs i own →
    is_eq (mark_cmp m seen) ≡ true → count ≡ larger own.count m.count → set xs i (record own { count = count }) ≡ with_mark m xs
set_there m seen own xs i count at seen_is own_is e count_is =
    let place = position_is m xs i at in
    let few : i < length xs = (position-Some (is_from m) xs i own at).0 in
    let same : seen ≡ own = get_or_read xs i seen few seen_is own ∙ sym own_is in
    let equal : mark_cmp m (get_or xs i own) ≡ Equal = ap (mark_cmp m) (sym own_is ∙ sym same) ∙ tie (mark_cmp m seen) e in
    ap (λ (c : Count). set xs i (record own { count = c })) count_is
    ∙ ap (λ (o : Mark). set xs i (with_larger o m)) own_is
    ∙ ap (λ (j : ℕ). set xs j (with_larger (get_or xs j own) m)) place
    ∙ set_at_place m xs own (subst (λ (j : ℕ). j < length xs) place few) (subst (λ (j : ℕ). mark_cmp m (get_or xs j own) ≡ Equal) place equal)

-- else the mark is put before it
pub insert_there : (m seen : Mark) (xs : List Mark) (i : ℕ) → position (is_from m) xs ≡ Some i → seen ≡ get_or xs i seen → is_eq (mark_cmp m seen) ≡ false → insert xs i m ≡ with_mark m xs
insert_there m seen xs i at seen_is e =
    let place = position_is m xs i at in
    let few : i < length xs = (position-Some (is_from m) xs i seen at).0 in
    ap (λ (j : ℕ). insert xs j m) place
    ∙ insert_at_place m xs seen (subst (λ (j : ℕ). j < length xs) place few)
    (λ h. false≢true (sym e ∙ ap is_eq (ap (mark_cmp m) (seen_is ∙ ap (λ (j : ℕ). get_or xs j seen) place) ∙ h)))

-- and behind all where there is none
pub push_there : (m : Mark) (xs : List Mark) → position (is_from m) xs ≡ None → xs ++ m ∷ [] ≡ with_mark m xs
push_there m xs at = push_behind m xs (none_before m xs at)

-- ---- marks stay in order

each-with_mark : (P : Mark → Type 0) (m : Mark) (xs : List Mark) → ((own : Mark) → P own → P (with_larger own m)) → P m → AllByRecursion P xs → AllByRecursion P (with_mark m xs)
each-with_mark P m [] larger one all = (one, all)
each-with_mark P m (x ∷ xs) larger one all =
    elim (mark_cmp m x) as (λ o. AllByRecursion P (match_ordering o (m ∷ x ∷ xs) (with_larger x m ∷ xs) (x ∷ with_mark m xs))) [
      | Less ↦ (one, all)
      | Equal ↦ (larger x all.0, all.1)
      | Greater ↦ (all.0, each-with_mark P m xs larger one all.1)
    ]

below_all : (a b : Mark) (xs : List Mark) → mark_cmp a b ≡ Less → AllByRecursion (λ y. mark_cmp b y ≡ Less) xs → AllByRecursion (λ y. mark_cmp a y ≡ Less) xs
below_all a b [] less all = all
below_all a b (y ∷ ys) less all = (marks_total.trans a b y less all.0, below_all a b ys less all.1)

pub rising-with_mark : (m : Mark) (xs : List Mark) → IsStrictlySortedBy mark_cmp xs → IsStrictlySortedBy mark_cmp (with_mark m xs)
unfolding IsStrictlySortedBy
rising-with_mark m [] rising = (tt, tt)
rising-with_mark m (x ∷ xs) rising =
    elim (mark_cmp m x) as (λ o. mark_cmp m x ≡ o → IsStrictlySortedBy mark_cmp (match_ordering o (m ∷ x ∷ xs) (with_larger x m ∷ xs) (x ∷ with_mark m xs))) [
      | Less ↦ λ e. ((e, below_all m x xs e rising.0), rising)
      | Equal ↦ λ e. rising
      | Greater ↦ λ e. (each-with_mark (λ y. mark_cmp x y ≡ Less) m xs (λ own h. h) (turned m x e) rising.0, rising-with_mark m xs rising.1)
    ] refl

larger_mark : (own m : Mark) → IsMark m → IsMark own → IsMark (with_larger own m)
larger_mark own m h i = (omega arith, omega arith)

pub marks-with_mark : (m : Mark) (xs : List Mark) → IsMark m → AllByRecursion IsMark xs → AllByRecursion IsMark (with_mark m xs)
marks-with_mark m xs one all = each-with_mark IsMark m xs (λ own h. larger_mark own m one h) one all

-- ---- what they say

-- nothing is said of the key of a mark that is below all
pub absent : (m : Mark) (xs : List Mark) → AllByRecursion (λ y. mark_cmp m y ≡ Less) xs → says xs (key_of m) ≡ never
absent m [] all = refl
absent m (x ∷ xs) all = ap (λ (b : Bool). cond b x.count (says xs (key_of m))) (not_of m x all.0) ∙ absent m xs all.1

pub absent_key : (m : Mark) (xs : List Mark) (key : Key) → AllByRecursion (λ y. mark_cmp m y ≡ Less) xs → is_of m key ≡ true → says xs key ≡ never
absent_key m xs key all h = ap (says xs) (key_is m key h) ∙ absent m xs all

-- what marks say is the greater of what the first one and the others say
pub says-cons : (m : Mark) (xs : List Mark) (key : Key) → AllByRecursion (λ y. mark_cmp m y ≡ Less) xs → says (m ∷ xs) key ≡ larger (said_by m key) (says xs key)
says-cons m xs key all = cases (is_of m key) refl
  where
    cases : (b : Bool) → is_of m key ≡ b → cond b m.count (says xs key) ≡ larger (cond b m.count never) (says xs key)
    cases true e = sym (ap (larger m.count) (absent_key m xs key all e) ∙ larger_never m.count)
    cases false e = sym (never_larger (says xs key))

pub says-with_mark : (m : Mark) (xs : List Mark) (key : Key) → IsStrictlySortedBy mark_cmp xs → says (with_mark m xs) key ≡ larger (says xs key) (said_by m key)
unfolding IsStrictlySortedBy
says-with_mark m [] key rising = cases (is_of m key)
  where
    cases : (b : Bool) → cond b m.count never ≡ larger never (cond b m.count never)
    cases true = sym (never_larger m.count)
    cases false = refl
says-with_mark m (x ∷ xs) key rising = cases (says-with_mark m xs key rising.1) (mark_cmp m x) refl
  where
    like : mark_cmp m x ≡ Equal → is_of m key ≡ is_of x key
    like e = ap (λ (k : Key). is_eq (key_cmp key k)) (exact_keys (key_of m) (key_of x) e)

    same : (b : Bool) → cond b (larger x.count m.count) (says xs key) ≡ larger (cond b x.count (says xs key)) (cond b m.count never)
    same true = refl
    same false = sym (larger_never (says xs key))

    apart : says (with_mark m xs) key ≡ larger (says xs key) (said_by m key) → (b : Bool) → is_of x key ≡ b → mark_cmp m x ≡ Greater → cond b x.count (says (with_mark m xs) key) ≡ larger (cond b x.count (says xs key)) (said_by m key)
    apart rest true h e =
        let no : is_of m key ≡ false = ap (is_of m) (key_is x key h) ∙ not_of x m (turned m x e) in
        sym (ap (λ (b : Bool). larger x.count (cond b m.count never)) no ∙ larger_never x.count)
    apart rest false h e = rest

    cases : says (with_mark m xs) key ≡ larger (says xs key) (said_by m key) → (o : Ordering) → mark_cmp m x ≡ o → says (match_ordering o (m ∷ x ∷ xs) (with_larger x m ∷ xs) (x ∷ with_mark m xs)) key ≡ larger (says (x ∷ xs) key) (said_by m key)
    cases rest Less e = says-cons m (x ∷ xs) key (e, below_all m x xs e rising.0) ∙ larger_comm (said_by m key) (says (x ∷ xs) key)
    cases rest Equal e = same (is_of x key) ∙ ap (λ (b : Bool). larger (says (x ∷ xs) key) (cond b m.count never)) (sym (like e))
    cases rest Greater e = apart rest (is_of x key) refl e

-- ---- joins

pub rising-join : (a b : List Mark) → IsStrictlySortedBy mark_cmp a → IsStrictlySortedBy mark_cmp (join a b)
rising-join a [] rising = rising
rising-join a (m ∷ b) rising = rising-join (with_mark m a) b (rising-with_mark m a rising)

pub marks-join : (a b : List Mark) → AllByRecursion IsMark a → AllByRecursion IsMark b → AllByRecursion IsMark (join a b)
marks-join a [] alls allt = alls
marks-join a (m ∷ b) alls allt = marks-join (with_mark m a) b (marks-with_mark m a allt.0 alls) allt.1

pub says-join : (a b : List Mark) (key : Key) → IsStrictlySortedBy mark_cmp a → IsStrictlySortedBy mark_cmp b → says (join a b) key ≡ larger (says a key) (says b key)
unfolding IsStrictlySortedBy
says-join a [] key ra rb = sym (larger_never (says a key))
says-join a (m ∷ b) key ra rb =
    says-join (with_mark m a) b key (rising-with_mark m a ra) rb.1
    ∙ ap (λ (c : Count). larger c (says b key)) (says-with_mark m a key ra)
    ∙ larger_assoc (says a key) (said_by m key) (says b key)
    ∙ ap (larger (says a key)) (sym (says-cons m b key rb.0))

-- ---- marks that say the same are the same

never_toggled : (c : Count) → c ≡ never → 0 < c.raised → ⊥
never_toggled c e h = let none : c.raised ≡ 0 = ap (λ (c : Count). c.raised) e in omega arith

pub own_count : (m : Mark) (xs : List Mark) → says (m ∷ xs) (key_of m) ≡ m.count
own_count m xs = ap (λ (b : Bool). cond b m.count (says xs (key_of m))) (is_of-own m)

mark_is : (a b : Mark) → key_of a ≡ key_of b → a.count ≡ b.count → a ≡ b
mark_is a b keys counts = λ i. record { item = (keys i).0; element = (keys i).1; count = counts i }

pub same_marks : (xs ys : List Mark) → IsStrictlySortedBy mark_cmp xs → IsStrictlySortedBy mark_cmp ys → AllByRecursion IsMark xs → AllByRecursion IsMark ys → ((key : Key) → says xs key ≡ says ys key) → xs ≡ ys
unfolding IsStrictlySortedBy
same_marks [] [] rx ry ax ay same = refl
same_marks [] (y ∷ ys) rx ry ax ay same = absurd (never_toggled y.count (sym (own_count y ys) ∙ sym (same (key_of y))) ay.0.0)
same_marks (x ∷ xs) [] rx ry ax ay same = absurd (never_toggled x.count (sym (own_count x xs) ∙ same (key_of x)) ax.0.0)
same_marks (x ∷ xs) (y ∷ ys) rx ry ax ay same = cases (same_marks xs ys rx.1 ry.1 ax.1 ay.1) (mark_cmp x y) refl
  where
    tails : key_of x ≡ key_of y → (key : Key) → says xs key ≡ says ys key
    tails e key = by (is_of x key) refl
      where
        like : is_of x key ≡ is_of y key
        like = ap (λ (k : Key). is_eq (key_cmp key k)) e

        by : (b : Bool) → is_of x key ≡ b → says xs key ≡ says ys key
        by true h = absent_key x xs key rx.0 h ∙ sym (absent_key y ys key ry.0 (sym like ∙ h))
        by false h =
            sym (ap (λ (b : Bool). cond b x.count (says xs key)) h)
            ∙ same key
            ∙ ap (λ (b : Bool). cond b y.count (says ys key)) (sym like ∙ h)

    cases : (((key : Key) → says xs key ≡ says ys key) → xs ≡ ys) → (o : Ordering) → mark_cmp x y ≡ o → x ∷ xs ≡ y ∷ ys
    cases rest Less e = absurd (never_toggled x.count (sym (own_count x xs) ∙ same (key_of x) ∙ absent x (y ∷ ys) (e, below_all x y ys e ry.0)) ax.0.0)
    cases rest Equal e =
        let keys : key_of x ≡ key_of y = exact_keys (key_of x) (key_of y) e in
        let counts : x.count ≡ y.count = sym (own_count x xs) ∙ same (key_of x) ∙ ap (says (y ∷ ys)) keys ∙ own_count y ys in
        let first : x ≡ y = mark_is x y keys counts in
        let others : xs ≡ ys = rest (tails keys) in
        λ i. first i ∷ others i
    cases rest Greater e = absurd (never_toggled y.count (sym (own_count y ys) ∙ sym (same (key_of y)) ∙ absent y (x ∷ xs) (turned x y e, below_all y x xs (turned x y e) rx.0)) ay.0.0)

-- ---- what marks say, found from their front

pub says-drop : (xs : List Mark) (i : ℕ) (m : Mark) (key : Key) → i < length xs → m ≡ get_or xs i m → says (drop i xs) key ≡ cond (is_of m key) m.count (says (drop (i + 1) xs) key)
says-drop xs i m key h e =
    ap (λ (ys : List Mark). says ys key) (drop-cons xs i m h)
    ∙ ap (λ (x : Mark). cond (is_of x key) x.count (says (drop (suc i) xs) key)) (sym e)
    ∙ ap (λ (n : ℕ). cond (is_of m key) m.count (says (drop n xs) key)) (sym (add-one i))

pub says-end : (xs : List Mark) (i : ℕ) (key : Key) → length xs ≤ i → says (drop i xs) key ≡ never
says-end xs zero key h = nothing xs h
  where
    nothing : (xs : List Mark) → length xs ≤ 0 → says xs key ≡ never
    nothing [] h = refl
    nothing (x ∷ xs) h = absurd (omega arith)
says-end [] (suc i) key h = refl
says-end (x ∷ xs) (suc i) key h = says-end xs i key (omega arith)

-- a count is below a bound where each mark's is
pub says-bound : (n : ℕ) (xs : List Mark) (key : Key) → 0 < n → AllByRecursion (λ (m : Mark). m.count.raised < n) xs → (says xs key).raised < n
says-bound n [] key h all = h
says-bound n (m ∷ xs) key h all = cases (is_of m key) (says-bound n xs key h all.1)
  where
    cases : (b : Bool) → (says xs key).raised < n → (cond b m.count (says xs key)).raised < n
    cases true rest = all.0
    cases false rest = rest
