-- what an edit makes of marks
use Rattle.std.proofs.Common.{◌≡◌, ℕ, ◌+◌, ◌%◌, ◌<◌, ◌≤◌, max, Bool, true, false, cond, ◌&&◌, ◌||◌, List, [], ◌∷◌, ◌++◌, map, filter, refl, sym, ◌∙◌, ap, arith}
use Rattle.std.specs.List.{AllByRecursion, list_any, flat_map}
use Rattle.std.specs.List.Sorted.{IsStrictlySortedBy}
use Rattle.std.specs.Ordering.{is_eq, ordering_then}
use Rattle.std.specs.declared.cmp.Ordering.{Ordering}
use Rattle.std.specs.declared.cmp.Ordering.TheVariants.{Less, Equal, Greater}
use Rattle.std.specs.Cmp.{tied_itself}
use Rattle.std.proofs.lemmas.Bool.{and_parts, and_from}
use Rattle.std.proofs.lemmas.Bool.Decides.{nat_tests}
use Rattle.std.proofs.lemmas.List.Folds.{list_any-append}
use Rattle.std.proofs.lemmas.Map.Views.{any-filter_same}
use Rattle.mr_version.specs.Name.{Name, name_cmp, name_eq}
use Rattle.mr_version.specs.Order.{names_total}
use Rattle.mr_mail.specs.Label.{text_eq}
use Rattle.mr_mail.specs.Flag.{has_flag, all_flags}
use Rattle.mr_mail.specs.declared.flags.Flag.{Flag}
use Rattle.mr_mail.specs.declared.flags.Flag.TheVariants.{Seen, Answered, Flagged, Draft, Deleted}
use Rattle.mr_mail.proofs.LabelLemmas.{list_any-map}
use Rattle.mr_joins.specs.declared.count.Count.{Count}
use Rattle.mr_joins.specs.declared.element.Element.{Element}
use Rattle.mr_joins.specs.declared.element.Element.TheVariants as element
use Rattle.mr_joins.specs.declared.mark.Mark.{Mark}
use Rattle.mr_joins.specs.Count.{never, larger, is_covered, next_odd_count, gone_count}
use Rattle.mr_joins.specs.Element.{element_cmp, element_eq}
use Rattle.mr_joins.specs.Value.{Key, mark_cmp, is_of, says, said_by, IsMark, with_mark, join}
use Rattle.mr_joins.specs.Shown.{is_deleted}
use Rattle.mr_joins.specs.Edited.{flag_elements, elements_of, is_wanted, deleted_mark, deleted, left_count, with_left}
use Rattle.mr_joins.proofs.Keys.{key_is}
use Rattle.mr_joins.proofs.Marks.{larger_assoc, larger_never, never_larger, rising-with_mark, says-with_mark}
use Rattle.mr_joins.proofs.ShownLemmas.{same_element, folder_eq}

-- ---- keys

is_eq-then : (a b : Ordering) → is_eq (ordering_then a b) ≡ (is_eq a && is_eq b)
is_eq-then Less b = refl
is_eq-then Equal b = refl
is_eq-then Greater b = refl

-- a mark is of a key where its delivery and its element are the key's
pub is_of-parts : (m : Mark) (key : Key) → is_of m key ≡ (name_eq key.0 m.item && element_eq key.1 m.element)
is_of-parts m key = is_eq-then (name_cmp key.0 m.item) (element_cmp key.1 m.element)

pub name_eq-itself : (a : Name) → name_eq a a ≡ true
name_eq-itself a = ap is_eq (tied_itself names_total a)

-- ---- what is wanted

none_any : {X : Type 0} (p : X → Bool) (xs : List X) → ((x : X) → p x ≡ false) → list_any p xs ≡ false
none_any p [] none = refl
none_any p (x ∷ xs) none = (λ i. none x i || list_any p xs) ∙ none_any p xs none

same_any : {X : Type 0} (p q : X → Bool) (xs : List X) → ((x : X) → p x ≡ q x) → list_any p xs ≡ list_any q xs
same_any p q [] same = refl
same_any p q (x ∷ xs) same = (λ i. same x i || same_any p q xs same i)

flag_eq-exact : (f g : Flag) → element_eq (element.Flag f) (element.Flag g) ≡ true → f ≡ g
flag_eq-exact f g h = let e : element.Flag f ≡ element.Flag g = same_element (element.Flag f) (element.Flag g) h in cc

folder_apart : (f : Flag) (l : List ℕ) → element_eq (element.Flag f) (element.Folder l) ≡ false
folder_apart Seen l = refl
folder_apart Answered l = refl
folder_apart Flagged l = refl
folder_apart Draft l = refl
folder_apart Deleted l = refl

flag_apart : (l : List ℕ) (f : Flag) → element_eq (element.Folder l) (element.Flag f) ≡ false
flag_apart l Seen = refl
flag_apart l Answered = refl
flag_apart l Flagged = refl
flag_apart l Draft = refl
flag_apart l Deleted = refl

other_apart : (w : List ℕ) (f : Flag) → element_eq (element.Other w) (element.Flag f) ≡ false
other_apart w Seen = refl
other_apart w Answered = refl
other_apart w Flagged = refl
other_apart w Draft = refl
other_apart w Deleted = refl

each_flag : (f : Flag) → list_any (λ g. element_eq (element.Flag f) (element.Flag g)) all_flags ≡ true
each_flag Seen = refl
each_flag Answered = refl
each_flag Flagged = refl
each_flag Draft = refl
each_flag Deleted = refl

pub and_true : (a : Bool) → (a && true) ≡ a
and_true true = refl
and_true false = refl

or_false : (a : Bool) → (a || false) ≡ a
or_false true = refl
or_false false = refl

among_flags : (e : Element) (flags : ℕ) → list_any (element_eq e) (flag_elements flags) ≡ list_any (λ (g : Flag). element_eq e (element.Flag g)) (filter (has_flag flags) all_flags)
among_flags e flags = list_any-map (λ (g : Flag). element.Flag g) (element_eq e) (filter (has_flag flags) all_flags)

among_folders : (e : Element) (labels : List (List ℕ)) → list_any (element_eq e) (map (λ (l : List ℕ). element.Folder l) labels) ≡ list_any (λ (l : List ℕ). element_eq e (element.Folder l)) labels
among_folders e labels = list_any-map (λ (l : List ℕ). element.Folder l) (element_eq e) labels

-- the elements of folders and flags are those that are wanted
pub among_elements : (labels : List (List ℕ)) (flags : ℕ) (e : Element) → list_any (element_eq e) (elements_of labels flags) ≡ is_wanted labels flags e
among_elements labels flags (element.Flag f) =
    list_any-append (element_eq (element.Flag f)) (flag_elements flags) (map (λ (l : List ℕ). element.Folder l) labels)
    ∙ (λ i. (among_flags (element.Flag f) flags
    ∙ any-filter_same (λ g. element_eq (element.Flag f) (element.Flag g)) (has_flag flags) (has_flag flags f) (λ g e. ap (has_flag flags) (sym (flag_eq-exact f g e))) all_flags
    ∙ ap (λ (b : Bool). has_flag flags f && b) (each_flag f) ∙ and_true (has_flag flags f)) i
    || (among_folders (element.Flag f) labels ∙ none_any (λ l. element_eq (element.Flag f) (element.Folder l)) labels (λ l. folder_apart f l)) i)
    ∙ or_false (has_flag flags f)
among_elements labels flags (element.Other w) =
    list_any-append (element_eq (element.Other w)) (flag_elements flags) (map (λ (l : List ℕ). element.Folder l) labels)
    ∙ (λ i. (among_flags (element.Other w) flags ∙ none_any (λ g. element_eq (element.Other w) (element.Flag g)) (filter (has_flag flags) all_flags) (λ g. other_apart w g)) i
    || (among_folders (element.Other w) labels ∙ none_any (λ l. element_eq (element.Other w) (element.Folder l)) labels (λ l. refl)) i)
among_elements labels flags (element.Folder l) =
    list_any-append (element_eq (element.Folder l)) (flag_elements flags) (map (λ (k : List ℕ). element.Folder k) labels)
    ∙ (λ i. (among_flags (element.Folder l) flags ∙ none_any (λ g. element_eq (element.Folder l) (element.Flag g)) (filter (has_flag flags) all_flags) (λ g. flag_apart l g)) i
    || (among_folders (element.Folder l) labels ∙ same_any (λ k. element_eq (element.Folder l) (element.Folder k)) (text_eq l) labels (λ k. folder_eq l k)) i)

-- ---- counts

pub left_never : (b : Bool) → left_count b never ≡ never
left_never true = refl
left_never false = refl

larger_itself : (c : Count) → larger c c ≡ c
larger_itself c =
    let raised : max c.raised c.raised ≡ c.raised = omega arith in
    let gone : max c.gone c.gone ≡ c.gone = omega arith in
    λ i. record { raised = raised i; gone = gone i }

left_next : (b : Bool) (c : Count) → larger (left_count b c) (next_odd_count c) ≡ next_odd_count c
left_next true c =
    let raised : max (c.raised + c.raised % 2) (c.raised + 1 + c.raised % 2) ≡ c.raised + 1 + c.raised % 2 = omega arith in
    let gone : max c.gone c.gone ≡ c.gone = omega arith in
    λ i. record { raised = raised i; gone = gone i }
left_next false c =
    let raised : max c.raised (c.raised + 1 + c.raised % 2) ≡ c.raised + 1 + c.raised % 2 = omega arith in
    let gone : max c.gone c.gone ≡ c.gone = omega arith in
    λ i. record { raised = raised i; gone = gone i }

pub left_or_next : (r b : Bool) (c : Count) → larger (left_count b c) (cond r (next_odd_count c) never) ≡ cond r (next_odd_count c) (left_count b c)
left_or_next true b c = left_next b c
left_or_next false b c = larger_never (left_count b c)

either : (a b : Bool) (n : Count) → larger (cond a n never) (cond b n never) ≡ cond (a || b) n never
either true true n = larger_itself n
either true false n = larger_never n
either false b n = never_larger (cond b n never)

-- ---- marks of elements that are put among others

-- some marks of one delivery, for elements that pass a test
abbrev pub some_of : (Element → Bool) → (Element → Mark) → Element → List Mark
some_of p make e = cond (p e) (make e ∷ []) []

module _ (p : Element → Bool) (item : Name) (count : Element → Count) where
  abbrev make : Element → Mark
  make e = record { item = item; element = e; count = count e }

  said_made : (e : Element) (key : Key) → said_by (make e) key ≡ cond (name_eq key.0 item && element_eq key.1 e) (count key.1) never
  said_made e key = cases (is_of (make e) key) refl ∙ ap (λ (b : Bool). cond b (count key.1) never) (is_of-parts (make e) key)
    where
      cases : (b : Bool) → is_of (make e) key ≡ b → cond b (count e) never ≡ cond b (count key.1) never
      cases true h = ap (λ (k : Key). count k.1) (sym (key_is (make e) key h))
      cases false h = refl

  -- what they say: beside what was said the count of each element that passes
  pub says-put : (es : List Element) (marks : List Mark) (key : Key) → IsStrictlySortedBy mark_cmp marks →
      says (join marks (flat_map (some_of p make) es)) key ≡ larger (says marks key) (cond (name_eq key.0 item && list_any (λ e. element_eq key.1 e && p e) es) (count key.1) never)
  says-put [] marks key rising = sym (ap (λ (b : Bool). larger (says marks key) (cond b (count key.1) never)) (none (name_eq key.0 item)) ∙ larger_never (says marks key))
    where
      none : (b : Bool) → (b && false) ≡ false
      none true = refl
      none false = refl
  says-put (e ∷ es) marks key rising = cases (p e) (λ xs r. says-put es xs key r)
    where
      abbreviated : Bool → Bool
      abbreviated b = b

      many : (n a b : Bool) → ((n && a) || (n && b)) ≡ (n && (a || b))
      many true a b = refl
      many false a b = refl

      cases : (b : Bool) → ((xs : List Mark) → IsStrictlySortedBy mark_cmp xs → says (join xs (flat_map (some_of p make) es)) key ≡ larger (says xs key) (cond (name_eq key.0 item && list_any (λ x. element_eq key.1 x && p x) es) (count key.1) never)) →
          says (join marks (cond b (make e ∷ []) [] ++ flat_map (some_of p make) es)) key ≡ larger (says marks key) (cond (name_eq key.0 item && ((element_eq key.1 e && b) || list_any (λ x. element_eq key.1 x && p x) es)) (count key.1) never)
      cases true rest =
          rest (with_mark (make e) marks) (rising-with_mark (make e) marks rising)
          ∙ ap (λ (c : Count). larger c (cond (name_eq key.0 item && list_any (λ x. element_eq key.1 x && p x) es) (count key.1) never)) (says-with_mark (make e) marks key rising ∙ ap (larger (says marks key)) (said_made e key))
          ∙ larger_assoc (says marks key) (cond (name_eq key.0 item && element_eq key.1 e) (count key.1) never) (cond (name_eq key.0 item && list_any (λ x. element_eq key.1 x && p x) es) (count key.1) never)
          ∙ ap (larger (says marks key)) (either (name_eq key.0 item && element_eq key.1 e) (name_eq key.0 item && list_any (λ x. element_eq key.1 x && p x) es) (count key.1))
          ∙ ap (λ (b : Bool). larger (says marks key) (cond b (count key.1) never))
          (many (name_eq key.0 item) (element_eq key.1 e) (list_any (λ x. element_eq key.1 x && p x) es) ∙ ap (λ (a : Bool). name_eq key.0 item && (a || list_any (λ x. element_eq key.1 x && p x) es)) (sym (and_true (element_eq key.1 e))))
      cases false rest =
          rest marks rising
          ∙ ap (λ (a : Bool). larger (says marks key) (cond (name_eq key.0 item && (a || list_any (λ x. element_eq key.1 x && p x) es)) (count key.1) never)) (none (element_eq key.1 e))
        where
          none : (b : Bool) → false ≡ (b && false)
          none true = refl
          none false = refl

  pub marks-put : (es : List Element) → ((e : Element) → IsMark (make e)) → AllByRecursion IsMark (flat_map (some_of p make) es)
  marks-put [] each = tt
  marks-put (e ∷ es) each = cases (p e) (marks-put es each)
    where
      cases : (b : Bool) → AllByRecursion IsMark (flat_map (some_of p make) es) → AllByRecursion IsMark (cond b (make e ∷ []) [] ++ flat_map (some_of p make) es)
      cases true rest = (each e, rest)
      cases false rest = rest

  -- those that pass among some: the one that is asked for, if it passes and is among them
  pub passing : (es : List Element) (e : Element) → list_any (λ x. element_eq e x && p x) es ≡ (list_any (element_eq e) es && p e)
  passing [] e = refl
  passing (x ∷ es) e = cases (element_eq e x) refl (passing es e)
    where
      cases : (b : Bool) → element_eq e x ≡ b → list_any (λ x. element_eq e x && p x) es ≡ (list_any (element_eq e) es && p e) → ((b && p x) || list_any (λ x. element_eq e x && p x) es) ≡ ((b || list_any (element_eq e) es) && p e)
      cases true h rest = (λ i. ap p (sym (same_element e x h)) i || rest i) ∙ absorbed (p e) (list_any (element_eq e) es)
        where
          absorbed : (a b : Bool) → (a || (b && a)) ≡ a
          absorbed true b = refl
          absorbed false true = refl
          absorbed false false = refl
      cases false h rest = rest

-- ---- what an edit leaves

pub says-left : (t : Element → Bool) (marks : List Mark) (key : Key) → says (map (λ m. with_left m (t m.element)) marks) key ≡ left_count (t key.1) (says marks key)
says-left t [] key = sym (left_never (t key.1))
says-left t (m ∷ more) key = cases (is_of m key) refl (says-left t more key)
  where
    cases : (b : Bool) → is_of m key ≡ b → says (map (λ m. with_left m (t m.element)) more) key ≡ left_count (t key.1) (says more key) →
        cond b (left_count (t m.element) m.count) (says (map (λ m. with_left m (t m.element)) more) key) ≡ left_count (t key.1) (cond b m.count (says more key))
    cases true h rest = ap (λ (k : Key). left_count (t k.1) m.count) (sym (key_is m key h))
    cases false h rest = rest

each_left : (t : Element → Bool) (a : Mark) (marks : List Mark) → AllByRecursion (λ y. mark_cmp a y ≡ Less) marks → AllByRecursion (λ y. mark_cmp a y ≡ Less) (map (λ m. with_left m (t m.element)) marks)
each_left t a [] all = tt
each_left t a (m ∷ more) all = (all.0, each_left t a more all.1)

pub rising-left : (t : Element → Bool) (marks : List Mark) → IsStrictlySortedBy mark_cmp marks → IsStrictlySortedBy mark_cmp (map (λ m. with_left m (t m.element)) marks)
unfolding IsStrictlySortedBy
rising-left t [] rising = tt
rising-left t (m ∷ more) rising = (each_left t (with_left m (t m.element)) more rising.0, rising-left t more rising.1)

left_mark-is : (m : Mark) (b : Bool) → IsMark m → IsMark (with_left m b)
left_mark-is m true h = (omega arith, omega arith)
left_mark-is m false h = h

pub marks-left : (t : Element → Bool) (marks : List Mark) → AllByRecursion IsMark marks → AllByRecursion IsMark (map (λ m. with_left m (t m.element)) marks)
marks-left t [] all = tt
marks-left t (m ∷ more) all = (left_mark-is m (t m.element) all.0, marks-left t more all.1)

-- no deletion knew more than was raised
pub says-within : (marks : List Mark) (key : Key) → AllByRecursion IsMark marks → (says marks key).gone ≤ (says marks key).raised
says-within [] key all = omega arith
says-within (m ∷ more) key all = cases (is_of m key) (says-within more key all.1)
  where
    cases : (b : Bool) → (says more key).gone ≤ (says more key).raised → (cond b m.count (says more key)).gone ≤ (cond b m.count (says more key)).raised
    cases true rest = all.0.1
    cases false rest = rest

pub raised_is : (c : Count) → c.gone ≤ c.raised → (0 < c.raised + 1 + c.raised % 2) × (c.gone ≤ c.raised + 1 + c.raised % 2)
raised_is c h = (omega arith, omega arith)

-- ---- the deletion

pub says-deleted : (marks : List Mark) (key : Key) → says (deleted marks) key ≡ gone_count (says marks key)
says-deleted [] key = refl
says-deleted (m ∷ more) key = cases (is_of m key) (says-deleted more key)
  where
    cases : (b : Bool) → says (deleted more) key ≡ gone_count (says more key) → cond b (gone_count m.count) (says (deleted more) key) ≡ gone_count (cond b m.count (says more key))
    cases true rest = refl
    cases false rest = rest

each_deleted : (a : Mark) (marks : List Mark) → AllByRecursion (λ y. mark_cmp a y ≡ Less) marks → AllByRecursion (λ y. mark_cmp a y ≡ Less) (deleted marks)
each_deleted a [] all = tt
each_deleted a (m ∷ more) all = (all.0, each_deleted a more all.1)

pub rising-deleted : (marks : List Mark) → IsStrictlySortedBy mark_cmp marks → IsStrictlySortedBy mark_cmp (deleted marks)
unfolding IsStrictlySortedBy
rising-deleted [] rising = tt
rising-deleted (m ∷ more) rising = (each_deleted (deleted_mark m) more rising.0, rising-deleted more rising.1)

gone_mark : (m : Mark) → IsMark m → IsMark (deleted_mark m)
gone_mark m h = (h.0, within m.count.raised m.count.gone h.1)
  where
    within : (a b : ℕ) → b ≤ a → max a b ≤ a
    within a b h = omega arith

pub marks-deleted : (marks : List Mark) → AllByRecursion IsMark marks → AllByRecursion IsMark (deleted marks)
marks-deleted [] all = tt
marks-deleted (m ∷ more) all = (gone_mark m all.0, marks-deleted more all.1)

pub deletes : (marks : List Mark) → is_deleted (deleted marks) ≡ true
deletes [] = refl
deletes (m ∷ more) = and_from (is_covered (gone_count m.count)) (is_deleted (deleted more)) (all m.count.raised m.count.gone) (deletes more)
  where
    all : (a b : ℕ) → is_covered (record { raised = a; gone = max a b }) ≡ true
    all a b = let h : a ≤ max a b = omega arith in grind (arith, nat_tests)

-- who is deleted stays as he is
pub deleted_stays : (marks : List Mark) → is_deleted marks ≡ true → AllByRecursion IsMark marks → deleted marks ≡ marks
deleted_stays [] h all = refl
deleted_stays (m ∷ more) h all =
    let parts = and_parts (is_covered m.count) (is_deleted more) h in
    let first : gone_count m.count ≡ m.count = same m.count parts.0 all.0.1 in
    let rest : deleted more ≡ more = deleted_stays more parts.1 all.1 in
    λ i. (record m { count = first i }) ∷ rest i
  where
    same : (c : Count) → is_covered c ≡ true → c.gone ≤ c.raised → gone_count c ≡ c
    same c h g = let le : c.raised ≤ c.gone = grind (arith, nat_tests) in let gone : max c.raised c.gone ≡ c.gone = omega arith in λ i. record { raised = c.raised; gone = gone i }
