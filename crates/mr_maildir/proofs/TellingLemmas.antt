-- the value that marks tell, in whatever order of items
use Rattle.std.proofs.Common.{◌≡◌, ◌≢◌, ℕ, zero, suc, ◌+◌, ◌<◌, ◌≤◌, Bool, true, false, not, cond, ◌&&◌, List, [], ◌∷◌, ◌++◌, length, drop, get_or, filter, refl, sym, ap, subst, ◌∙◌, arith}
use Rattle.std.specs.List.{AllByRecursion}
use Rattle.std.specs.List.Sorted.{IsStrictlySortedBy}
use Rattle.std.proofs.lemmas.List.Elements.{recursion_from_All}
use Rattle.std.specs.declared.cmp.Ordering.TheVariants.{Less}
use Rattle.mr_version.specs.Name.{Name, name_eq}
use Rattle.mr_mail.specs.Flag.{has_flag}
use Rattle.mr_mail.specs.Label.{text_eq}
use Rattle.mr_joins.specs.declared.count.Count.{Count}
use Rattle.mr_joins.specs.declared.element.Element.{Element}
use Rattle.mr_joins.specs.declared.mark.Mark.{Mark}
use Rattle.mr_joins.specs.Count.{larger, never}
use Rattle.mr_joins.specs.Element.{element_eq}
use Rattle.mr_joins.specs.Order.{elements_equiv}
use Rattle.mr_joins.specs.Value.{IsMark, IsValue, Key, is_of, join, key_of, mark_cmp, says, with_mark}
use Rattle.mr_joins.proofs.Keys.{key_is}
use Rattle.mr_joins.proofs.LabelLemmas.{labels_decide}
use Rattle.mr_joins.proofs.Marks.{larger_never, marks-join, never_larger, rising-join, same_marks, says-join}
use Rattle.mr_joins.proofs.ShownLemmas.{same_element}
use Rattle.mr_maildir.proofs.Names.{and_from, and_parts, eq-eqb, eqb-true, false≢true, list_all, pointwise, ◌==◌}
use Rattle.mr_maildir.proofs.CountsLemmas.{count_in, mark_parts, same_item, same_self}
use Rattle.mr_maildir.specs.Counts.{is_mark}
use Rattle.mr_maildir.specs.Telling.{is_deletion, is_shown_by, mark_eq, marks_eq, other_marks, own_marks, told_marks, uncounted}

-- ---- marks of some items

each_part : (P : Mark → Type 0) (keep : Mark → Bool) (marks : List Mark) → AllByRecursion P marks → AllByRecursion P (filter keep marks)
each_part P keep [] all = tt
each_part P keep (m ∷ marks) all =
    elim (keep m) as (λ t. AllByRecursion P (cond t (m ∷ filter keep marks) (filter keep marks))) [
      | true ↦ (all.0, each_part P keep marks all.1)
      | false ↦ each_part P keep marks all.1
    ]

rising_part : (keep : Mark → Bool) (marks : List Mark) → IsStrictlySortedBy mark_cmp marks → IsStrictlySortedBy mark_cmp (filter keep marks)
unfolding IsStrictlySortedBy
rising_part keep [] rising = tt
rising_part keep (m ∷ marks) rising =
    elim (keep m) as (λ t. IsStrictlySortedBy mark_cmp (cond t (m ∷ filter keep marks) (filter keep marks))) [
      | true ↦ (each_part (λ y. mark_cmp m y ≡ Less) keep marks rising.0, rising_part keep marks rising.1)
      | false ↦ rising_part keep marks rising.1
    ]

-- marks of some items say what all say of these
says_part : (keep : Name → Bool) (marks : List Mark) (key : Key) → says (filter (λ (m : Mark). keep m.item) marks) key ≡ cond (keep key.0) (says marks key) never
says_part keep [] key = elim (keep key.0) as (λ t. never ≡ cond t never never) [ true ↦ refl | false ↦ refl ]
says_part keep (m ∷ marks) key =
    elim (keep m.item) as (λ t. keep m.item ≡ t → says (cond t (m ∷ filter (λ (m : Mark). keep m.item) marks) (filter (λ (m : Mark). keep m.item) marks)) key ≡ cond (keep key.0) (cond (is_of m key) m.count (says marks key)) never) [
      | true ↦ λ kept. elim (is_of m key) as (λ t. is_of m key ≡ t → cond t m.count (says (filter (λ (m : Mark). keep m.item) marks) key) ≡ cond (keep key.0) (cond t m.count (says marks key)) never) [
        | true ↦ λ here. sym (ap (λ t. cond t m.count never) (ap (λ (k : Key). keep k.0) (key_is m key here) ∙ kept))
        | false ↦ λ _. says_part keep marks key
      ] refl
      | false ↦ λ left. elim (is_of m key) as (λ t. is_of m key ≡ t → says (filter (λ (m : Mark). keep m.item) marks) key ≡ cond (keep key.0) (cond t m.count (says marks key)) never) [
        | true ↦ λ here.
            let out : keep key.0 ≡ false = ap (λ (k : Key). keep k.0) (key_is m key here) ∙ left in
            says_part keep marks key ∙ (ap (λ t. cond t (says marks key) never) out ∙ sym (ap (λ t. cond t m.count never) out))
        | false ↦ λ _. says_part keep marks key
      ] refl
    ] refl

join-append : (a b c : List Mark) → join a (b ++ c) ≡ join (join a b) c
join-append a [] c = refl
join-append a (m ∷ b) c = join-append (with_mark m a) b c

two_sides : (k : Bool) (v : Count) → larger (larger never (cond k v never)) (cond (not k) v never) ≡ v
two_sides true v = larger_never (larger never v) ∙ never_larger v
two_sides false v = ap (λ c. larger c v) (never_larger never) ∙ never_larger v

-- the marks of a value, those of one item first, are the value together
pub own_first : (own : Name) (value : List Mark) → IsValue value → join [] (own_marks own value ++ other_marks own value) ≡ value
unfolding IsStrictlySortedBy
own_first own value is =
    let mine = own_marks own value in
    let others = other_marks own value in
    let marks = recursion_from_All IsMark value is.each in
    let mine_rise = rising_part (λ (m : Mark). name_eq own m.item) value is.rising in
    let others_rise = rising_part (λ (m : Mark). not (name_eq own m.item)) value is.rising in
    let first_rise = rising-join [] mine tt in
    join-append [] mine others
    ∙ same_marks (join (join [] mine) others) value (rising-join (join [] mine) others first_rise) is.rising
    (marks-join (join [] mine) others (marks-join [] mine tt (each_part IsMark (λ (m : Mark). name_eq own m.item) value marks)) (each_part IsMark (λ (m : Mark). not (name_eq own m.item)) value marks)) marks
    (λ key.
    says-join (join [] mine) others key first_rise others_rise
    ∙ (ap (λ c. larger c (says others key)) (says-join [] mine key tt mine_rise)
    ∙ (ap (λ c. larger (larger never c) (says others key)) (says_part (name_eq own) value key)
    ∙ (ap (λ c. larger (larger never (cond (name_eq own key.0) (says value key) never)) c) (says_part (λ item. not (name_eq own item)) value key)
    ∙ two_sides (name_eq own key.0) (says value key)))))

-- where neither has one there is none
pub no_marks : (own : Name) (value : List Mark) → own_marks own value ++ other_marks own value ≡ [] → value ≡ []
no_marks own [] none = refl
no_marks own (m ∷ value) none =
    elim (name_eq own m.item) as (λ t. cond t (m ∷ own_marks own value) (own_marks own value) ++ cond (not t) (m ∷ other_marks own value) (other_marks own value) ≡ [] → m ∷ value ≡ []) [
      | true ↦ λ is. absurd (cc)
      | false ↦ λ is. absurd (behind (own_marks own value) is)
    ] none
  where
    behind : (a : List Mark) → a ++ m ∷ other_marks own value ≡ [] → ⊥
    behind [] is = cc
    behind (x ∷ a) is = cc

-- ---- lists of marks that are one

mark_same : (a b : Mark) → mark_eq a b ≡ true → a ≡ b
mark_same a b is =
    let three = and_parts (name_eq a.item b.item && element_eq a.element b.element && (a.count.raised == b.count.raised)) (a.count.gone == b.count.gone) is in
    let two = and_parts (name_eq a.item b.item && element_eq a.element b.element) (a.count.raised == b.count.raised) three.0 in
    let one = and_parts (name_eq a.item b.item) (element_eq a.element b.element) two.0 in
    let item = same_item a.item b.item one.0 in
    let e = same_element a.element b.element one.1 in
    let raised = eqb-true a.count.raised b.count.raised two.1 in
    let gone = eqb-true a.count.gone b.count.gone three.1 in
    λ i. record { item = item i; element = e i; count = record { raised = raised i; gone = gone i } }

mark_self : (a : Mark) → mark_eq a a ≡ true
mark_self a =
    and_from (name_eq a.item a.item && element_eq a.element a.element && (a.count.raised == a.count.raised)) (a.count.gone == a.count.gone)
    (and_from (name_eq a.item a.item && element_eq a.element a.element) (a.count.raised == a.count.raised)
    (and_from (name_eq a.item a.item) (element_eq a.element a.element) (same_self a.item) (elements_equiv.refl a.element)) (eq-eqb a.count.raised a.count.raised refl)) (eq-eqb a.count.gone a.count.gone refl)

pub marks_same : (a b : List Mark) → marks_eq a b ≡ true → a ≡ b
marks_same [] [] is = refl
marks_same [] (y ∷ b) is = absurd (false≢true is)
marks_same (x ∷ a) [] is = absurd (false≢true is)
marks_same (x ∷ a) (y ∷ b) is =
    let two = and_parts (mark_eq x y) (marks_eq a b) is in
    let first = mark_same x y two.0 in
    let rest = marks_same a b two.1 in
    λ i. first i ∷ rest i

pub marks_self : (a : List Mark) → marks_eq a a ≡ true
marks_self [] = refl
marks_self (x ∷ a) = and_from (mark_eq x x) (marks_eq a a) (mark_self x) (marks_self a)

-- ---- the value that is read is the one that was told

shown_nothing : (own : Name) (labels : List (List ℕ)) (flags : ℕ) → is_shown_by [] labels flags ≡ true → uncounted own labels flags ≡ []
shown_nothing own [] flags shown =
    let same = eqb-true 16 flags (and_parts true (16 == flags) shown).1 in
    ap (uncounted own []) (sym same)
shown_nothing own (label ∷ labels) flags shown = absurd (false≢true (and_parts false (16 == flags) shown).0)

pub read_is : (own : Name) (value marks read : List Mark) (labels : List (List ℕ)) (flags : ℕ) → IsValue value → is_shown_by value labels flags ≡ true → told_marks own value labels flags ≡ marks → (marks ≡ [] → read ≡ uncounted own labels flags) → (marks ≢ [] → read ≡ join [] marks) → read ≡ value
read_is own value marks read labels flags is shown told none some =
    elim (marks_eq (uncounted own labels flags) value) as (λ t. marks_eq (uncounted own labels flags) value ≡ t → cond t [] (own_marks own value ++ other_marks own value) ≡ marks → read ≡ value) [
      | true ↦ λ same here. none (sym here) ∙ marks_same (uncounted own labels flags) value same
      | false ↦ λ _ here. by marks here none some
    ] refl told
  where
    by : (marks : List Mark) → own_marks own value ++ other_marks own value ≡ marks → (marks ≡ [] → read ≡ uncounted own labels flags) → (marks ≢ [] → read ≡ join [] marks) → read ≡ value
    by [] here none some =
        let nothing = no_marks own value here in
        let P : List Mark → Type 0 = λ v. is_shown_by v labels flags ≡ true in
        none refl ∙ (shown_nothing own labels flags (subst P nothing shown) ∙ sym nothing)
    by (m ∷ marks) here none some = some (λ empty. cc) ∙ (ap (join []) (sym here) ∙ own_first own value is)
