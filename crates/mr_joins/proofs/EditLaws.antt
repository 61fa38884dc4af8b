-- what is shown after an edit
use Rattle.std.proofs.Common.{◌≡◌, ℕ, ◌+◌, ◌%◌, ◌≤◌, length, Bool, true, false, cond, not, ◌&&◌, ◌||◌, List, [], ◌∷◌, map, refl, sym, ◌∙◌, ap, subst, arith}
use Rattle.std.specs.List.{AllByRecursion, list_any, flat_map}
use Rattle.std.specs.List.Sorted.{IsStrictlySortedBy}
use Rattle.std.specs.Cmp.Lexicographic.{pointwise}
use Rattle.std.proofs.lemmas.Bool.{false≢true}
use Rattle.std.proofs.lemmas.Bool.Decides.{nat_tests}
use Rattle.mr_version.specs.Name.{Name, name_cmp, name_eq}
use Rattle.mr_version.specs.Order.{exact_names}
use Rattle.mr_mail.specs.Label.{text_cmp, text_eq, has_label}
use Rattle.mr_mail.specs.Flag.{has_flag}
use Rattle.mr_mail.specs.declared.flags.Flag.{Flag}
use Rattle.mr_joins.specs.declared.count.Count.{Count}
use Rattle.mr_joins.specs.declared.element.Element.{Element}
use Rattle.mr_joins.specs.declared.element.Element.TheVariants as element
use Rattle.mr_joins.specs.declared.mark.Mark.{Mark}
use Rattle.mr_joins.specs.Count.{never, larger, is_set, even_count, next_odd_count}
use Rattle.mr_joins.specs.Element.{element_eq}
use Rattle.mr_joins.specs.Says.{IsBelow, IsDeleted}
use Rattle.mr_joins.specs.Value.{Key, mark_cmp, says, IsMark}
use Rattle.mr_joins.specs.Shown.{has, is_deleted, folders_set, folders_shown, first_labels, or_inbox, flags_where, flags_set, flags_shown}
use Rattle.mr_joins.specs.Edited.{elements_of, is_wanted, is_about, is_unseen, takes, raises, left_count, left_mark, raised_of, changed, changed_count}
use Rattle.mr_joins.proofs.Keys.{tie}
use Rattle.mr_joins.proofs.Marks.{larger_never, rising-join, marks-join, same_marks}
use Rattle.mr_joins.proofs.LabelLemmas.{labels_decide, text_eq-itself}
use Rattle.mr_joins.proofs.ShownLemmas.{has_says, says_has, has_alike, deleted_says, says_deleted, folders_are, folders_alike, first_all, deleted_nowhere, shown_standing, flags_where-has_flag, has_flag-flags_where}
use Rattle.mr_joins.proofs.EditedLemmas.{among_elements, left_or_next, says-put, marks-put, passing, says-left, rising-left, marks-left, says-within, raised_is, name_eq-itself}

differ : true ≡ false → ⊥
differ h = cc

even_set : (c : Count) → is_set (even_count c) ≡ true → ⊥
even_set c h = let odd : (c.raised + c.raised % 2) % 2 ≡ 1 = grind (arith, nat_tests) in omega arith

odd_set : (c : Count) → is_set (next_odd_count c) ≡ true
odd_set c = let odd : (c.raised + 1 + c.raised % 2) % 2 ≡ 1 = omega arith in grind (arith, nat_tests)

-- what isn't set stays where it is left
unset_even : (c : Count) → is_set c ≡ false → even_count c ≡ c
unset_even c h =
    let even : c.raised % 2 ≡ 1 → ⊥ = λ odd. grind (arith, nat_tests) in
    let raised : c.raised + c.raised % 2 ≡ c.raised = omega arith in
    λ i. record { raised = raised i; gone = c.gone }

-- what is set by a count that is raised or left is wanted
set_wanted : (n w r t : Bool) (c : Count) → is_set (cond (n && (w && r)) (next_odd_count c) (left_count t c)) ≡ true → (w ≡ false → t ≡ true) → w ≡ true
set_wanted n true r t c set taken = refl
set_wanted true false r true c set taken = absurd (even_set c set)
set_wanted true false r false c set taken = taken refl
set_wanted false false r true c set taken = absurd (even_set c set)
set_wanted false false r false c set taken = taken refl

taken_unless : (d a w : Bool) → (d || a) ≡ true → w ≡ false → (d || (a && not w)) ≡ true
taken_unless true a w h e = refl
taken_unless false true true h e = sym e
taken_unless false true false h e = refl
taken_unless false false w h e = h

kept_if : (d a w : Bool) → d ≡ false → w ≡ true → (d || (a && not w)) ≡ false
kept_if true a w d w_is = d
kept_if false true true d w_is = refl
kept_if false true false d w_is = sym w_is
kept_if false false w d w_is = refl

-- what is wanted and isn't raised was set
had_unless : (d a h u : Bool) → (d || a) ≡ true → (d || (a && (not h || u))) ≡ false → (d ≡ false) × (h ≡ true)
had_unless true a h u about raised = absurd (differ raised)
had_unless false true true u about raised = (refl, refl)
had_unless false true false u about raised = absurd (differ raised)
had_unless false false h u about raised = absurd (false≢true about)

module _ (marks : List Mark) (item : Name) (labels : List (List ℕ)) (flags : ℕ) (rising : IsStrictlySortedBy mark_cmp marks) (each : AllByRecursion IsMark marks) where
  count_of : Element → Count
  count_of e = next_odd_count (says marks (item, e))

  abbrev after : List Mark
  after = changed marks item labels flags

  -- key by key, what is told
  pub says-changed : (key : Key) → says (changed marks item labels flags) key ≡ changed_count marks item labels flags key
  says-changed key =
      says-put (raises marks labels) item (λ e. next_odd_count (says marks (item, e))) (elements_of labels flags) (map (left_mark marks labels flags) marks) key (rising-left (takes marks labels flags) marks rising)
      ∙ (λ i. larger (says-left (takes marks labels flags) marks key i) (cond (name_eq key.0 item && wanted i) (next_odd_count (says marks (item, key.1))) never))
      ∙ cases (name_eq key.0 item) refl (is_wanted labels flags key.1 && raises marks labels key.1)
    where
      wanted : list_any (λ e. element_eq key.1 e && raises marks labels e) (elements_of labels flags) ≡ (is_wanted labels flags key.1 && raises marks labels key.1)
      wanted =
          passing (raises marks labels) item (λ e. next_odd_count (says marks (item, e))) (elements_of labels flags) key.1
          ∙ ap (λ (b : Bool). b && raises marks labels key.1) (among_elements labels flags key.1)

      cases : (b : Bool) → name_eq key.0 item ≡ b → (r : Bool) → larger (left_count (takes marks labels flags key.1) (says marks key)) (cond (b && r) (next_odd_count (says marks (item, key.1))) never)
          ≡ cond (b && r) (next_odd_count (says marks key)) (left_count (takes marks labels flags key.1) (says marks key))
      cases true h r =
          let same : key.0 ≡ item = exact_names key.0 item (tie (name_cmp key.0 item) h) in
          ap (λ (d : Name). larger (left_count (takes marks labels flags key.1) (says marks key)) (cond r (next_odd_count (says marks (d, key.1))) never)) (sym same)
          ∙ left_or_next r (takes marks labels flags key.1) (says marks key)
      cases false h r = larger_never (left_count (takes marks labels flags key.1) (says marks key))

  pub rising-changed : IsStrictlySortedBy mark_cmp (changed marks item labels flags)
  rising-changed =
      rising-join (map (left_mark marks labels flags) marks) (flat_map (raised_of marks item labels) (elements_of labels flags)) (rising-left (takes marks labels flags) marks rising)

  pub marks-changed : AllByRecursion IsMark (changed marks item labels flags)
  marks-changed =
      marks-join (map (left_mark marks labels flags) marks) (flat_map (raised_of marks item labels) (elements_of labels flags))
      (marks-left (takes marks labels flags) marks each)
      (marks-put (raises marks labels) item (λ e. next_odd_count (says marks (item, e))) (elements_of labels flags) (λ e. raised_is (says marks (item, e)) (says-within marks (item, e) each)))

  set_at : (d : Name) (e : Element) → is_set (changed_count marks item labels flags (d, e)) ≡ true → has after e ≡ true
  set_at d e h = says_has after d e (ap is_set (says-changed (d, e)) ∙ h)

  -- of what the edit is about just what is wanted is set
  pub has_changed : (e : Element) → (is_deleted marks || is_about marks labels e) ≡ true → has (changed marks item labels flags) e ≡ is_wanted labels flags e
  has_changed e about = one_truth (has after e) (is_wanted labels flags e) there back
    where
      one_truth : (a b : Bool) → (a ≡ true → b ≡ true) → (b ≡ true → a ≡ true) → a ≡ b
      one_truth true b f g = sym (f refl)
      one_truth false true f g = g refl
      one_truth false false f g = refl

      there : has after e ≡ true → is_wanted labels flags e ≡ true
      there h =
          let r = has_says after e rising-changed h in
          set_wanted (name_eq r.0 item) (is_wanted labels flags e) (raises marks labels e) (takes marks labels flags e) (says marks (r.0, e))
          (ap is_set (sym (says-changed (r.0, e))) ∙ r.1)
          (λ w. taken_unless (is_deleted marks) (is_about marks labels e) (is_wanted labels flags e) about w)

      back : is_wanted labels flags e ≡ true → has after e ≡ true
      back w = cases (raises marks labels e) refl
        where
          cases : (r : Bool) → raises marks labels e ≡ r → has after e ≡ true
          cases true r =
              set_at item e
              (ap is_set (λ i. cond (name_eq-itself item i && (w i && r i)) (next_odd_count (says marks (item, e))) (left_count (takes marks labels flags e) (says marks (item, e))))
              ∙ odd_set (says marks (item, e)))
          cases false r =
              let had = had_unless (is_deleted marks) (is_about marks labels e) (has marks e) (is_unseen (folders_shown marks) e) about r in
              let t : takes marks labels flags e ≡ false = kept_if (is_deleted marks) (is_about marks labels e) (is_wanted labels flags e) had.0 w in
              let by = has_says marks e rising had.1 in
              set_at by.0 e
              (ap is_set (λ i. cond (name_eq by.0 item && (w i && r i)) (next_odd_count (says marks (by.0, e))) (left_count (t i) (says marks (by.0, e))))
              ∙ plain (name_eq by.0 item) (says marks (by.0, e)) ∙ by.1)
            where
              plain : (n : Bool) (c : Count) → is_set (cond (n && false) (next_odd_count c) c) ≡ is_set c
              plain true c = refl
              plain false c = refl

  same_count : (key : Key) → raises marks labels key.1 ≡ false → takes marks labels flags key.1 ≡ false → changed_count marks item labels flags key ≡ says marks key
  same_count key r t =
      (λ i. cond (name_eq key.0 item && (is_wanted labels flags key.1 && r i)) (next_odd_count (says marks key)) (left_count (t i) (says marks key)))
      ∙ plain (name_eq key.0 item) (is_wanted labels flags key.1)
    where
      plain : (n w : Bool) → cond (n && (w && false)) (next_odd_count (says marks key)) (says marks key) ≡ says marks key
      plain true true = refl
      plain true false = refl
      plain false w = refl

  none_raised : (key : Key) → is_deleted marks ≡ false → is_about marks labels key.1 ≡ false → says (changed marks item labels flags) key ≡ says marks key
  none_raised key d a =
      says-changed key
      ∙ same_count key (λ i. d i || (a i && (not (has marks key.1) || is_unseen (folders_shown marks) key.1))) (λ i. d i || (a i && not (is_wanted labels flags key.1)))

  -- what it isn't about stays
  pub has_kept : (e : Element) → is_deleted marks ≡ false → is_about marks labels e ≡ false → has (changed marks item labels flags) e ≡ has marks e
  has_kept e d a = has_alike after marks e rising-changed rising (λ n. none_raised (n, e) d a)

  -- nothing falls
  pub above-changed : IsBelow (says marks) (says (changed marks item labels flags))
  above-changed = record {
    raised = λ key. subst (λ (c : Count). (says marks key).raised ≤ c.raised) (sym (says-changed key)) (rises (name_eq key.0 item && (is_wanted labels flags key.1 && raises marks labels key.1)) (takes marks labels flags key.1) (says marks key));
    gone = λ key. subst (λ (c : Count). (says marks key).gone ≤ c.gone) (sym (says-changed key)) (stays (name_eq key.0 item && (is_wanted labels flags key.1 && raises marks labels key.1)) (takes marks labels flags key.1) (says marks key));
  }
    where
      rises : (r t : Bool) (c : Count) → c.raised ≤ (cond r (next_odd_count c) (left_count t c)).raised
      rises true t c = omega arith
      rises false true c = omega arith
      rises false false c = omega arith

      stays : (r t : Bool) (c : Count) → c.gone ≤ (cond r (next_odd_count c) (left_count t c)).gone
      stays true t c = omega arith
      stays false true c = omega arith
      stays false false c = omega arith

  gone_same : (key : Key) → (says (changed marks item labels flags) key).gone ≡ (says marks key).gone
  gone_same key = ap (λ (c : Count). c.gone) (says-changed key) ∙ same (name_eq key.0 item && (is_wanted labels flags key.1 && raises marks labels key.1)) (takes marks labels flags key.1) (says marks key)
    where
      same : (r t : Bool) (c : Count) → (cond r (next_odd_count c) (left_count t c)).gone ≡ c.gone
      same true t c = refl
      same false true c = refl
      same false false c = refl

-- an edit to some folders leaves the mail standing
pub changed_stands : (marks : List Mark) (item : Name) (label : List ℕ) (labels : List (List ℕ)) (flags : ℕ) → IsStrictlySortedBy mark_cmp marks → AllByRecursion IsMark marks → is_deleted (changed marks item (label ∷ labels) flags) ≡ false
changed_stands marks item label labels flags rising each = none (is_deleted after) refl
  where
    after : List Mark
    after = changed marks item (label ∷ labels) flags

    told : (key : Key) → says after key ≡ changed_count marks item (label ∷ labels) flags key
    told key = says-changed marks item (label ∷ labels) flags rising each key

    never_past : (n g : ℕ) → n + 1 + n % 2 ≤ g → g ≤ n → ⊥
    never_past n g h i = omega arith

    first : is_wanted (label ∷ labels) flags (element.Folder label) ≡ true
    first = ap (λ (b : Bool). b || has_label labels label) (text_eq-itself label)

    was : (b : Bool) → is_deleted marks ≡ b → IsDeleted (says after) → ⊥
    was true d dead =
        never_past (says marks (item, element.Folder label)).raised (says marks (item, element.Folder label)).gone
        (subst (λ (c : Count). c.raised ≤ c.gone)
        (told (item, element.Folder label)
        ∙ (λ i. cond (name_eq-itself item i && (first i && (d i || (is_about marks (label ∷ labels) (element.Folder label) && (not (has marks (element.Folder label)) || is_unseen (folders_shown marks) (element.Folder label))))))
        (next_odd_count (says marks (item, element.Folder label))) (left_count (takes marks (label ∷ labels) flags (element.Folder label)) (says marks (item, element.Folder label)))))
        (dead (item, element.Folder label)))
        (says-within marks (item, element.Folder label) each)
    was false d dead =
        differ (sym (says_deleted marks rising (λ key. le_trans _ _ _ _ ((above-changed marks item (label ∷ labels) flags rising each).raised key) (dead key) (gone_same marks item (label ∷ labels) flags rising each key))) ∙ d)
      where
        le_trans : (a b c d : ℕ) → a ≤ b → b ≤ c → c ≡ d → a ≤ d
        le_trans a b c d h i j = omega arith

    none : (b : Bool) → is_deleted after ≡ b → b ≡ false
    none true h = absurd (was (is_deleted marks) refl (deleted_says after h))
    none false h = refl

module _ (marks : List Mark) (item : Name) (label : List ℕ) (labels : List (List ℕ)) (flags : ℕ) (rising : IsStrictlySortedBy mark_cmp marks) (each : AllByRecursion IsMark marks) where
  stands : is_deleted (changed marks item (label ∷ labels) flags) ≡ false
  stands = changed_stands marks item label labels flags rising each

  -- The folders that are shown are those that were wanted.
  pub changed_folders : IsStrictlySortedBy text_cmp (label ∷ labels) → length (label ∷ labels) ≤ 16 → folders_shown (changed marks item (label ∷ labels) flags) ≡ label ∷ labels
  changed_folders order few = shown_standing (changed marks item (label ∷ labels) flags) stands ∙ cases (is_deleted marks) (pointwise text_eq (folders_shown marks) (label ∷ labels)) refl refl
    where
      told : ((l : List ℕ) → (is_deleted marks || is_about marks (label ∷ labels) (element.Folder l)) ≡ true) → or_inbox (first_labels (folders_set (changed marks item (label ∷ labels) flags))) ≡ label ∷ labels
      told about =
          ap (λ (ls : List (List ℕ)). or_inbox (first_labels ls)) (folders_are (changed marks item (label ∷ labels) flags) (label ∷ labels) order (λ l. has_changed marks item (label ∷ labels) flags rising each (element.Folder l) (about l)))
          ∙ ap or_inbox (first_all (label ∷ labels) few)

      cases : (d p : Bool) → is_deleted marks ≡ d → pointwise text_eq (folders_shown marks) (label ∷ labels) ≡ p → or_inbox (first_labels (folders_set (changed marks item (label ∷ labels) flags))) ≡ label ∷ labels
      cases true p d_is p_is = told (λ l. ap (λ (b : Bool). b || is_about marks (label ∷ labels) (element.Folder l)) d_is)
      cases false false d_is p_is = told (λ l. (λ i. d_is i || not (p_is i)))
      cases false true d_is p_is =
          ap (λ (ls : List (List ℕ)). or_inbox (first_labels ls))
          (folders_alike (changed marks item (label ∷ labels) flags) marks (λ l. has_kept marks item (label ∷ labels) flags rising each (element.Folder l) d_is (ap not p_is)))
          ∙ sym (shown_standing marks d_is)
          ∙ (labels_decide (folders_shown marks) (label ∷ labels)).0 p_is

  -- The flags that are shown are those that were wanted.
  pub changed_flags : flags ≤ 31 → flags_shown (changed marks item (label ∷ labels) flags) ≡ flags
  changed_flags few =
      ap (λ (b : Bool). cond b 16 (flags_set (changed marks item (label ∷ labels) flags))) stands
      ∙ ap flags_where (λ i f. has_changed marks item (label ∷ labels) flags rising each (element.Flag f) (yes (is_deleted marks)) i)
      ∙ flags_where-has_flag flags few
    where
      yes : (b : Bool) → (b || true) ≡ true
      yes true = refl
      yes false = refl

  -- Where they are what is shown nothing rises.
  pub changed_nothing : label ∷ labels ≡ folders_shown marks → flags ≡ flags_shown marks → changed marks item (label ∷ labels) flags ≡ marks
  changed_nothing folders flags_are =
      same_marks (changed marks item (label ∷ labels) flags) marks (rising-changed marks item (label ∷ labels) flags rising each) rising (marks-changed marks item (label ∷ labels) flags rising each) each same
    where
      lives : is_deleted marks ≡ false
      lives = cases (is_deleted marks) refl
        where
          cases : (b : Bool) → is_deleted marks ≡ b → b ≡ false
          cases true h = let none : label ∷ labels ≡ [] = folders ∙ deleted_nowhere marks h in cc
          cases false h = refl

      unchanged : pointwise text_eq (folders_shown marks) (label ∷ labels) ≡ true
      unchanged = (labels_decide (folders_shown marks) (label ∷ labels)).1 (sym folders)

      flag_is : (f : Flag) → has_flag flags f ≡ has marks (element.Flag f)
      flag_is f =
          ap (λ (n : ℕ). has_flag n f) (flags_are ∙ ap (λ (b : Bool). cond b 16 (flags_set marks)) lives)
          ∙ has_flag-flags_where (λ g. has marks (element.Flag g)) f

      unset : (b : Bool) (d : Name) (f : Flag) → has marks (element.Flag f) ≡ false → is_set (says marks (d, element.Flag f)) ≡ b → b ≡ false
      unset true d f h set = absurd (false≢true (sym h ∙ says_has marks d (element.Flag f) set))
      unset false d f h set = refl

      flag_same : (d : Name) (f : Flag) (b : Bool) → has marks (element.Flag f) ≡ b → changed_count marks item (label ∷ labels) flags (d, element.Flag f) ≡ says marks (d, element.Flag f)
      flag_same d f true h =
          same_count marks item (label ∷ labels) flags rising each (d, element.Flag f)
          (λ i. lives i || (true && (not (h i) || false)))
          (λ i. lives i || (true && not ((flag_is f ∙ h) i)))
      flag_same d f false h =
          (λ i. cond (name_eq d item && ((flag_is f ∙ h) i && raises marks (label ∷ labels) (element.Flag f))) (next_odd_count (says marks (d, element.Flag f))) (left_count (lives i || (true && not ((flag_is f ∙ h) i))) (says marks (d, element.Flag f))))
          ∙ plain (name_eq d item)
          ∙ unset_even (says marks (d, element.Flag f)) (unset (is_set (says marks (d, element.Flag f))) d f h refl)
        where
          plain : (n : Bool) → cond (n && false) (next_odd_count (says marks (d, element.Flag f))) (even_count (says marks (d, element.Flag f))) ≡ even_count (says marks (d, element.Flag f))
          plain true = refl
          plain false = refl

      at : (d : Name) (e : Element) → says (changed marks item (label ∷ labels) flags) (d, e) ≡ says marks (d, e)
      at d (element.Flag f) = says-changed marks item (label ∷ labels) flags rising each (d, element.Flag f) ∙ flag_same d f (has marks (element.Flag f)) refl
      at d (element.Other w) = none_raised marks item (label ∷ labels) flags rising each (d, element.Other w) lives refl
      at d (element.Folder l) = none_raised marks item (label ∷ labels) flags rising each (d, element.Folder l) lives (ap not unchanged)

      same : (key : Key) → says (changed marks item (label ∷ labels) flags) key ≡ says marks key
      same key = at key.0 key.1
