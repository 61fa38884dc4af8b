-- what is shown of marks
use Rattle.std.proofs.Common.{◌≡◌, ◌≢◌, ℕ, zero, suc, ◌<◌, ◌≤◌, ◌==◌, length, take, drop, Bool, true, false, cond, ◌&&◌, ◌||◌, List, [], ◌∷◌, ◌++◌, refl, sym, ◌∙◌, ap, subst, arith}
use Rattle.std.specs.List.{AllByRecursion, flat_map}
use Rattle.std.specs.List.Sorted.{IsStrictlySortedBy}
use Rattle.std.specs.Ordering.{is_eq}
use Rattle.std.specs.declared.cmp.Ordering.TheVariants.{Less}
use Rattle.std.specs.Cmp.{tied_itself}
use Rattle.std.specs.Cmp.Lexicographic.{texts_ties}
use Rattle.std.proofs.lemmas.Bool.{false≢true, and_parts, and_from, or_right}
use Rattle.std.proofs.lemmas.Bool.Decides.{nat_tests}
use Rattle.std.proofs.lemmas.List.Folds.{list_any-append}
use Rattle.mr_version.specs.Name.{Name}
use Rattle.mr_mail.specs.Label.{text_cmp, text_eq, has_label}
use Rattle.mr_mail.specs.Flag.{has_flag}
use Rattle.mr_mail.specs.declared.flags.Flag.{Flag}
use Rattle.mr_mail.specs.declared.flags.Flag.TheVariants.{Seen, Answered, Flagged, Draft, Deleted}
use Rattle.mr_mail.proofs.FlagLemmas.{passes-below}
use Rattle.mr_joins.specs.declared.count.Count.{Count}
use Rattle.mr_joins.specs.declared.element.Element.{Element}
use Rattle.mr_joins.specs.declared.element.Element.TheVariants as element
use Rattle.mr_joins.specs.declared.mark.Mark.{Mark}
use Rattle.mr_joins.specs.Count.{never, is_set, is_covered}
use Rattle.mr_joins.specs.Element.{element_cmp, element_eq}
use Rattle.mr_joins.specs.Order.{elements_total}
use Rattle.mr_joins.specs.Says.{IsDeleted}
use Rattle.mr_joins.specs.Value.{Key, key_of, mark_cmp, is_of, says}
use Rattle.mr_joins.specs.Labels.{inbox}
use Rattle.mr_joins.specs.Shown.{sets, has, is_deleted, label_of, folder_set, folders_set, is_behind, first_labels, or_inbox, folders_shown, with_flag_if, flags_where}
use Rattle.mr_joins.proofs.Keys.{exact_elements, tie, key_is}
use Rattle.mr_joins.proofs.Marks.{absent_key, own_count}
use Rattle.mr_joins.proofs.LabelLemmas.{has-in_order, rising-in_order, rising-unique, behind}

-- ---- elements that are one

pub same_element : (a b : Element) → element_eq a b ≡ true → a ≡ b
same_element a b h = exact_elements a b (tie (element_cmp a b) h)

pub element_eq-itself : (a : Element) → element_eq a a ≡ true
element_eq-itself a = ap is_eq (tied_itself elements_total a)

pub never_set : is_set never ≡ true → ⊥
never_set h = false≢true h

-- ---- which elements are set

or_first : (a b : Bool) → a ≡ true → (a || b) ≡ true
or_first true b h = refl
or_first false b h = absurd (false≢true h)

-- some delivery sets what is set
pub has_says : (marks : List Mark) (e : Element) → IsStrictlySortedBy mark_cmp marks → has marks e ≡ true → (d : Name) × (is_set (says marks (d, e)) ≡ true)
unfolding IsStrictlySortedBy
has_says [] e rising h = absurd (false≢true h)
has_says (m ∷ more) e rising h = cases (has_says more e rising.1) (sets e m) refl h
  where
    later : (d : Name) → is_set (says more (d, e)) ≡ true → (b : Bool) → is_of m (d, e) ≡ b → is_set (cond b m.count (says more (d, e))) ≡ true
    later d set true is = absurd (never_set (ap is_set (sym (absent_key m more (d, e) rising.0 is)) ∙ set))
    later d set false is = set

    cases : (has more e ≡ true → (d : Name) × (is_set (says more (d, e)) ≡ true)) → (b : Bool) → sets e m ≡ b → (b || has more e) ≡ true → (d : Name) × (is_set (says (m ∷ more) (d, e)) ≡ true)
    cases rest true is h =
        let parts = and_parts (element_eq e m.element) (is_set m.count) is in
        (m.item, ap (λ (x : Element). is_set (says (m ∷ more) (m.item, x))) (same_element e m.element parts.0) ∙ ap is_set (own_count m more) ∙ parts.1)
    cases rest false is h = let r = rest h in (r.0, later r.0 r.1 (is_of m (r.0, e)) refl)

-- and what some delivery sets is set
pub says_has : (marks : List Mark) (d : Name) (e : Element) → is_set (says marks (d, e)) ≡ true → has marks e ≡ true
says_has [] d e h = absurd (never_set h)
says_has (m ∷ more) d e h = cases (says_has more d e) (is_of m (d, e)) refl h
  where
    cases : (is_set (says more (d, e)) ≡ true → has more e ≡ true) → (b : Bool) → is_of m (d, e) ≡ b → is_set (cond b m.count (says more (d, e))) ≡ true → has (m ∷ more) e ≡ true
    cases rest true is set =
        let same : e ≡ m.element = ap (λ (k : Key). k.1) (key_is m (d, e) is) in
        or_first (sets e m) (has more e) (and_from (element_eq e m.element) (is_set m.count) (ap (element_eq e) (sym same) ∙ element_eq-itself e) set)
    cases rest false is set = or_right (sets e m) (has more e) (rest set)

one_truth : (a b : Bool) → (a ≡ true → b ≡ true) → (b ≡ true → a ≡ true) → a ≡ b
one_truth true b f g = sym (f refl)
one_truth false true f g = g refl
one_truth false false f g = refl

-- values that say the same of an element have it alike
pub has_alike : (xs ys : List Mark) (e : Element) → IsStrictlySortedBy mark_cmp xs → IsStrictlySortedBy mark_cmp ys → ((d : Name) → says xs (d, e) ≡ says ys (d, e)) → has xs e ≡ has ys e
has_alike xs ys e rx ry same =
    one_truth (has xs e) (has ys e)
    (λ h. let r = has_says xs e rx h in says_has ys r.0 e (ap is_set (sym (same r.0)) ∙ r.1))
    (λ h. let r = has_says ys e ry h in says_has xs r.0 e (ap is_set (same r.0) ∙ r.1))

-- ---- whether the mail is deleted

covered_le : (c : Count) → is_covered c ≡ true → c.raised ≤ c.gone
covered_le c h = grind (arith, nat_tests)

le_covered : (c : Count) → c.raised ≤ c.gone → is_covered c ≡ true
le_covered c h = grind (arith, nat_tests)

pub deleted_says : (marks : List Mark) → is_deleted marks ≡ true → IsDeleted (says marks)
deleted_says [] h key = omega arith
deleted_says (m ∷ more) h key = cases (deleted_says more parts.1 key) (is_of m key)
  where
    parts : (is_covered m.count ≡ true) × (is_deleted more ≡ true)
    parts = and_parts (is_covered m.count) (is_deleted more) h

    cases : (says more key).raised ≤ (says more key).gone → (b : Bool) → (cond b m.count (says more key)).raised ≤ (cond b m.count (says more key)).gone
    cases rest true = covered_le m.count parts.0
    cases rest false = rest

pub says_deleted : (marks : List Mark) → IsStrictlySortedBy mark_cmp marks → IsDeleted (says marks) → is_deleted marks ≡ true
unfolding IsStrictlySortedBy
says_deleted [] rising h = refl
says_deleted (m ∷ more) rising h = and_from (is_covered m.count) (is_deleted more) (le_covered m.count own) (says_deleted more rising.1 others)
  where
    own : m.count.raised ≤ m.count.gone
    own = subst (λ (c : Count). c.raised ≤ c.gone) (own_count m more) (h (key_of m))

    others : IsDeleted (says more)
    others key = cases (is_of m key) refl (h key)
      where
        cases : (b : Bool) → is_of m key ≡ b → (cond b m.count (says more key)).raised ≤ (cond b m.count (says more key)).gone → (says more key).raised ≤ (says more key).gone
        cases true is le = subst (λ (c : Count). c.raised ≤ c.gone) (sym (absent_key m more key rising.0 is)) (omega arith)
        cases false is le = le

-- ---- folders

flag_apart : (l : List ℕ) (f : Flag) → element_eq (element.Folder l) (element.Flag f) ≡ false
flag_apart l Seen = refl
flag_apart l Answered = refl
flag_apart l Flagged = refl
flag_apart l Draft = refl
flag_apart l Deleted = refl

-- folders are one where their labels are
pub folder_eq : (a b : List ℕ) → element_eq (element.Folder a) (element.Folder b) ≡ text_eq a b
folder_eq a b = sym (texts_ties a b)

one_label : (m : Mark) (l : List ℕ) → has_label (folder_set m) l ≡ sets (element.Folder l) m
one_label m l = cases m.element (is_set m.count)
  where
    no : (b : Bool) → has_label (cond b [] []) l ≡ (false && b)
    no true = refl
    no false = refl

    cases : (e : Element) (b : Bool) → has_label (cond b (label_of e) []) l ≡ (element_eq (element.Folder l) e && b)
    cases (element.Flag f) b = no b ∙ ap (λ (x : Bool). x && b) (sym (flag_apart l f))
    cases (element.Other w) b = no b
    cases (element.Folder k) true = folder l k
      where
        folder : (a b : List ℕ) → has_label (b ∷ []) a ≡ (element_eq (element.Folder a) (element.Folder b) && true)
        folder a b = ap (λ (x : Bool). x || false) (sym (folder_eq a b)) ∙ plain (element_eq (element.Folder a) (element.Folder b))
          where
            plain : (x : Bool) → (x || false) ≡ (x && true)
            plain true = refl
            plain false = refl
    cases (element.Folder k) false = sym (none (element_eq (element.Folder l) (element.Folder k)))
      where
        none : (x : Bool) → (x && false) ≡ false
        none true = refl
        none false = refl

labels_of : (marks : List Mark) (l : List ℕ) → has_label (flat_map folder_set marks) l ≡ has marks (element.Folder l)
labels_of [] l = refl
labels_of (m ∷ more) l =
    list_any-append (text_eq l) (folder_set m) (flat_map folder_set more)
    ∙ (λ i. one_label m l i || labels_of more l i)

-- the folders that are set are the labels that are
pub has_label-folders_set : (marks : List Mark) (l : List ℕ) → has_label (folders_set marks) l ≡ has marks (element.Folder l)
has_label-folders_set marks l = has-in_order (flat_map folder_set marks) l ∙ labels_of marks l

-- labels that rise, and that are set just where they are among these, are these
pub folders_are : (marks : List Mark) (labels : List (List ℕ)) → IsStrictlySortedBy text_cmp labels → ((l : List ℕ) → has marks (element.Folder l) ≡ has_label labels l) → folders_set marks ≡ labels
folders_are marks labels rising same =
    rising-unique (folders_set marks) labels (rising-in_order (flat_map folder_set marks)) rising (λ l. has_label-folders_set marks l ∙ same l)

pub folders_alike : (xs ys : List Mark) → ((l : List ℕ) → has xs (element.Folder l) ≡ has ys (element.Folder l)) → folders_set xs ≡ folders_set ys
folders_alike xs ys same = folders_are xs (folders_set ys) (rising-in_order (flat_map folder_set ys)) (λ l. same l ∙ sym (has_label-folders_set ys l))

-- ---- the first sixteen

take_whole : {X : Type 0} (n : ℕ) (xs : List X) → length xs ≤ n → take n xs ≡ xs
take_whole zero [] h = refl
take_whole zero (x ∷ xs) h = absurd (omega arith)
take_whole (suc n) [] h = refl
take_whole {X} (suc n) (x ∷ xs) h = ap (λ (ys : List X). x ∷ ys) (take_whole n xs (omega arith))

drop_whole : {X : Type 0} (n : ℕ) (xs : List X) → length xs ≤ n → drop n xs ≡ []
drop_whole zero [] h = refl
drop_whole zero (x ∷ xs) h = absurd (omega arith)
drop_whole (suc n) [] h = refl
drop_whole (suc n) (x ∷ xs) h = drop_whole n xs (omega arith)

-- of sixteen at most all are first
pub first_all : (labels : List (List ℕ)) → length labels ≤ 16 → first_labels labels ≡ labels
first_all labels h =
    ap (λ (ls : List (List ℕ)). cond (has_label ls inbox) (take 15 labels ++ inbox ∷ []) (take 16 labels)) (drop_whole 16 labels h)
    ∙ take_whole 16 labels h

length_take : {X : Type 0} (n : ℕ) (xs : List X) → length (take n xs) ≤ n
length_take zero xs = omega arith
length_take (suc n) [] = omega arith
length_take (suc n) (x ∷ xs) = let rest = length_take n xs in omega arith

length_one_more : {X : Type 0} (xs : List X) (x : X) → length (xs ++ x ∷ []) ≡ suc (length xs)
length_one_more [] x = refl
length_one_more (y ∷ xs) x = ap suc (length_one_more xs x)

first_few : (labels : List (List ℕ)) → length (first_labels labels) ≤ 16
first_few labels = cases (is_behind labels inbox)
  where
    cases : (b : Bool) → length (cond b (take 15 labels ++ inbox ∷ []) (take 16 labels)) ≤ 16
    cases true = let few = length_take 15 labels in let more = length_one_more (take 15 labels) inbox in omega arith
    cases false = length_take 16 labels

or_few : (labels : List (List ℕ)) → length labels ≤ 16 → length (or_inbox labels) ≤ 16
or_few [] h = omega arith
or_few (l ∷ labels) h = h

pub few_shown : (marks : List Mark) → length (folders_shown marks) ≤ 16
few_shown marks = cases (is_deleted marks)
  where
    cases : (b : Bool) → length (cond b [] (or_inbox (first_labels (folders_set marks)))) ≤ 16
    cases true = omega arith
    cases false = or_few (first_labels (folders_set marks)) (first_few (folders_set marks))

each_append : (P : List ℕ → Type 0) (xs : List (List ℕ)) (q : List ℕ) → AllByRecursion P xs → P q → AllByRecursion P (xs ++ q ∷ [])
each_append P [] q all one = (one, tt)
each_append P (x ∷ xs) q all one = (all.0, each_append P xs q all.1 one)

each_take : (P : List ℕ → Type 0) (n : ℕ) (xs : List (List ℕ)) → AllByRecursion P xs → AllByRecursion P (take n xs)
each_take P zero xs all = tt
each_take P (suc n) [] all = tt
each_take P (suc n) (x ∷ xs) all = (all.0, each_take P n xs all.1)

rising_take : (n : ℕ) (xs : List (List ℕ)) → IsStrictlySortedBy text_cmp xs → IsStrictlySortedBy text_cmp (take n xs)
unfolding IsStrictlySortedBy
rising_take zero xs rising = tt
rising_take (suc n) [] rising = tt
rising_take (suc n) (x ∷ xs) rising = (each_take (λ y. text_cmp x y ≡ Less) n xs rising.0, rising_take n xs rising.1)

dropped : (n : ℕ) (xs : List (List ℕ)) (q : List ℕ) → has_label (drop n xs) q ≡ true → has_label xs q ≡ true
dropped zero xs q h = h
dropped (suc n) [] q h = h
dropped (suc n) (x ∷ xs) q h = or_right (text_eq q x) (has_label xs q) (dropped n xs q h)

-- the first ones with one that is behind them
rising_with : (j k : ℕ) (xs : List (List ℕ)) (q : List ℕ) → j ≤ k → IsStrictlySortedBy text_cmp xs → has_label (drop k xs) q ≡ true → IsStrictlySortedBy text_cmp (take j xs ++ q ∷ [])
unfolding IsStrictlySortedBy
rising_with zero k xs q le rising h = (tt, tt)
rising_with (suc j) zero xs q le rising h = absurd (omega arith)
rising_with (suc j) (suc k) [] q le rising h = absurd (false≢true h)
rising_with (suc j) (suc k) (x ∷ xs) q le rising h = (
  each_append (λ y. text_cmp x y ≡ Less) (take j xs) q (each_take (λ y. text_cmp x y ≡ Less) j xs rising.0) (behind x xs q rising.0 (dropped k xs q h)),
  rising_with j k xs q (omega arith) rising.1 h,
)

rising_first : (labels : List (List ℕ)) → IsStrictlySortedBy text_cmp labels → IsStrictlySortedBy text_cmp (first_labels labels)
rising_first labels rising = cases (is_behind labels inbox) refl
  where
    cases : (b : Bool) → is_behind labels inbox ≡ b → IsStrictlySortedBy text_cmp (cond b (take 15 labels ++ inbox ∷ []) (take 16 labels))
    cases true h = rising_with 15 16 labels inbox (omega arith) rising h
    cases false h = rising_take 16 labels rising

rising_or : (labels : List (List ℕ)) → IsStrictlySortedBy text_cmp labels → IsStrictlySortedBy text_cmp (or_inbox labels)
unfolding IsStrictlySortedBy
rising_or [] rising = (tt, tt)
rising_or (l ∷ labels) rising = rising

pub rising_shown : (marks : List Mark) → IsStrictlySortedBy text_cmp (folders_shown marks)
unfolding IsStrictlySortedBy
rising_shown marks = cases (is_deleted marks)
  where
    cases : (b : Bool) → IsStrictlySortedBy text_cmp (cond b [] (or_inbox (first_labels (folders_set marks))))
    cases true = tt
    cases false = rising_or (first_labels (folders_set marks)) (rising_first (folders_set marks) (rising-in_order (flat_map folder_set marks)))

-- a mail that stands is somewhere
or_some : (labels : List (List ℕ)) → or_inbox labels ≢ []
or_some [] h = cc
or_some (l ∷ labels) h = cc

pub stands_somewhere : (marks : List Mark) → is_deleted marks ≡ false → folders_shown marks ≢ []
stands_somewhere marks h e = or_some (first_labels (folders_set marks)) (sym (ap (λ (b : Bool). cond b [] (or_inbox (first_labels (folders_set marks)))) h) ∙ e)

pub deleted_nowhere : (marks : List Mark) → is_deleted marks ≡ true → folders_shown marks ≡ []
deleted_nowhere marks h = ap (λ (b : Bool). cond b [] (or_inbox (first_labels (folders_set marks)))) h

pub shown_standing : (marks : List Mark) → is_deleted marks ≡ false → folders_shown marks ≡ or_inbox (first_labels (folders_set marks))
shown_standing marks h = ap (λ (b : Bool). cond b [] (or_inbox (first_labels (folders_set marks)))) h

pub or_none : (label : List ℕ) (labels : List (List ℕ)) → or_inbox (label ∷ labels) ≡ label ∷ labels
or_none label labels = refl

-- ---- flags

-- the byte of five answers
abbrev byte_of : Bool → Bool → Bool → Bool → Bool → ℕ
byte_of a b c d e = with_flag_if (with_flag_if (with_flag_if (with_flag_if (with_flag_if 0 Seen a) Answered b) Flagged c) Draft d) Deleted e

-- a flag byte is that of the flags that it has
pub flags_where-has_flag : (flags : ℕ) → flags ≤ 31 → flags_where (has_flag flags) ≡ flags
flags_where-has_flag flags h =
    let below : flags < 32 = omega arith in
    grind (arith, nat_tests, passes-below 32 (λ n. flags_where (has_flag n) == n) refl flags below)

answers : (a b c d e : Bool) → (has_flag (byte_of a b c d e) Seen ≡ a) × (has_flag (byte_of a b c d e) Answered ≡ b) × (has_flag (byte_of a b c d e) Flagged ≡ c) × (has_flag (byte_of a b c d e) Draft ≡ d) × (has_flag (byte_of a b c d e) Deleted ≡ e)
answers true true true true true = (refl, refl, refl, refl, refl)
answers true true true true false = (refl, refl, refl, refl, refl)
answers true true true false true = (refl, refl, refl, refl, refl)
answers true true true false false = (refl, refl, refl, refl, refl)
answers true true false true true = (refl, refl, refl, refl, refl)
answers true true false true false = (refl, refl, refl, refl, refl)
answers true true false false true = (refl, refl, refl, refl, refl)
answers true true false false false = (refl, refl, refl, refl, refl)
answers true false true true true = (refl, refl, refl, refl, refl)
answers true false true true false = (refl, refl, refl, refl, refl)
answers true false true false true = (refl, refl, refl, refl, refl)
answers true false true false false = (refl, refl, refl, refl, refl)
answers true false false true true = (refl, refl, refl, refl, refl)
answers true false false true false = (refl, refl, refl, refl, refl)
answers true false false false true = (refl, refl, refl, refl, refl)
answers true false false false false = (refl, refl, refl, refl, refl)
answers false true true true true = (refl, refl, refl, refl, refl)
answers false true true true false = (refl, refl, refl, refl, refl)
answers false true true false true = (refl, refl, refl, refl, refl)
answers false true true false false = (refl, refl, refl, refl, refl)
answers false true false true true = (refl, refl, refl, refl, refl)
answers false true false true false = (refl, refl, refl, refl, refl)
answers false true false false true = (refl, refl, refl, refl, refl)
answers false true false false false = (refl, refl, refl, refl, refl)
answers false false true true true = (refl, refl, refl, refl, refl)
answers false false true true false = (refl, refl, refl, refl, refl)
answers false false true false true = (refl, refl, refl, refl, refl)
answers false false true false false = (refl, refl, refl, refl, refl)
answers false false false true true = (refl, refl, refl, refl, refl)
answers false false false true false = (refl, refl, refl, refl, refl)
answers false false false false true = (refl, refl, refl, refl, refl)
answers false false false false false = (refl, refl, refl, refl, refl)

-- the byte has just the flags that pass
pub has_flag-flags_where : (test : Flag → Bool) (flag : Flag) → has_flag (flags_where test) flag ≡ test flag
has_flag-flags_where test Seen = (answers (test Seen) (test Answered) (test Flagged) (test Draft) (test Deleted)).0
has_flag-flags_where test Answered = (answers (test Seen) (test Answered) (test Flagged) (test Draft) (test Deleted)).1
has_flag-flags_where test Flagged = (answers (test Seen) (test Answered) (test Flagged) (test Draft) (test Deleted)).2
has_flag-flags_where test Draft = (answers (test Seen) (test Answered) (test Flagged) (test Draft) (test Deleted)).3
has_flag-flags_where test Deleted = (answers (test Seen) (test Answered) (test Flagged) (test Draft) (test Deleted)).4
