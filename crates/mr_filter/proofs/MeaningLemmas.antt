-- a filter that covers another selects all that the other does
use Rattle.std.proofs.Common.{◌≡◌, ℕ, Bool, true, false, not, ◌⊎◌, ◌&&◌, ◌||◌, List, [], ◌∷◌, sym, ◌∙◌, ap, refl, arith, inl, inr}
use Rattle.mr_filter.proofs.Names.{ClauseParts, Flag, IsTrue, MailCard, all_flags, both_true, covers, first_so, has_flag, has_flags, has_label, has_labels}
use Rattle.mr_filter.proofs.Names.{is_as_wide, lacks_flags, lacks_labels, le-leb, leb-true, list_all, list_any, list_any_congr, meets, nat_le}
use Rattle.mr_filter.proofs.Names.{nat_list_eq_equiv, second_so, selects, text_eq}

-- which of two holds where one does
pub or_cases : (a b : Bool) → (a || b) ≡ true → (a ≡ true) ⊎ (b ≡ true)
or_cases a b h = grind arith

pub or_first : (a b : Bool) → a ≡ true → (a || b) ≡ true
or_first a b h = ap (λ x. x || b) h

pub or_second : (a b : Bool) → b ≡ true → (a || b) ≡ true
or_second a b h = grind arith

-- a label that is named passes what each that is named passes
passes_if_named : (labels names : List (List ℕ)) (label : List ℕ) → has_labels labels names ≡ true → has_label names label ≡ true → has_label labels label ≡ true
passes_if_named labels [] label each named = cc
passes_if_named labels (x ∷ names) label each named =
    elim (or_cases (text_eq label x) (has_label names label) named) [
      | inl same ↦ list_any_congr nat_list_eq_equiv label x labels same ∙ first_so (has_label labels x) (has_labels labels names) each
      | inr later ↦ passes_if_named labels names label (second_so (has_label labels x) (has_labels labels names) each) later
    ]

-- the labels of a wider list are among those of a narrower one
pub has_labels-chain : (labels narrow wide : List (List ℕ)) → has_labels labels narrow ≡ true → has_labels narrow wide ≡ true → has_labels labels wide ≡ true
has_labels-chain labels narrow [] met among = refl
has_labels-chain labels narrow (x ∷ wide) met among = grind (arith, has_labels-chain labels narrow wide met, passes_if_named)

-- a label that is named is one of those that are found, where it is found
found_if_named : (labels names : List (List ℕ)) (label : List ℕ) → has_label names label ≡ true → has_label labels label ≡ true → list_any (has_label labels) names ≡ true
found_if_named labels [] label named found = named
found_if_named labels (x ∷ names) label named found =
    elim (or_cases (text_eq label x) (has_label names label) named) [
      | inl same ↦ or_first (has_label labels x) (list_any (has_label labels) names) (sym (list_any_congr nat_list_eq_equiv label x labels same) ∙ found)
      | inr later ↦ or_second (has_label labels x) (list_any (has_label labels) names) (found_if_named labels names label later found)
    ]

-- what finds a label of a wider list finds one of a narrower one
finds_more : (labels narrow wide : List (List ℕ)) → has_labels narrow wide ≡ true → list_any (has_label labels) wide ≡ true → list_any (has_label labels) narrow ≡ true
finds_more labels narrow [] among found = cc
finds_more labels narrow (x ∷ wide) among found = grind (arith, finds_more labels narrow wide, or_cases, found_if_named)

not_both : (b : Bool) → (not b ≡ true) → b ≡ true → false ≡ true
not_both b lacks found = grind arith

lacks_if_not : (b : Bool) → (b ≡ true → false ≡ true) → not b ≡ true
lacks_if_not b never = grind arith

pub lacks_labels-chain : (labels narrow wide : List (List ℕ)) → lacks_labels labels narrow ≡ true → has_labels narrow wide ≡ true → lacks_labels labels wide ≡ true
lacks_labels-chain labels narrow wide met among = grind (arith, lacks_if_not, not_both, finds_more)

-- a flag that is asked for by a wider set is asked for by a narrower one
asked_more : (f n w : Bool) → (not n || f) ≡ true → (not w || n) ≡ true → (not w || f) ≡ true
asked_more f n w met among = grind arith

barred_more : (f n w : Bool) → not (n && f) ≡ true → (not w || n) ≡ true → not (w && f) ≡ true
barred_more f n w met among = grind arith

chain_has : (flags narrow wide : ℕ) (fs : List Flag) → list_all (λ f. not (has_flag narrow f) || has_flag flags f) fs ≡ true → list_all (λ f. not (has_flag wide f) || has_flag narrow f) fs ≡ true → list_all (λ f. not (has_flag wide f) || has_flag flags f) fs ≡ true
chain_has flags narrow wide [] met among = refl
chain_has flags narrow wide (f ∷ fs) met among = grind (arith, chain_has flags narrow wide fs, asked_more)

chain_lacks : (flags narrow wide : ℕ) (fs : List Flag) → list_all (λ f. not (has_flag narrow f && has_flag flags f)) fs ≡ true → list_all (λ f. not (has_flag wide f) || has_flag narrow f) fs ≡ true → list_all (λ f. not (has_flag wide f && has_flag flags f)) fs ≡ true
chain_lacks flags narrow wide [] met among = refl
chain_lacks flags narrow wide (f ∷ fs) met among = grind (arith, chain_lacks flags narrow wide fs, barred_more)

-- the same of flags
has_flags-chain : (flags narrow wide : ℕ) → has_flags flags narrow ≡ true → has_flags narrow wide ≡ true → has_flags flags wide ≡ true
has_flags-chain flags narrow wide met among = chain_has flags narrow wide all_flags met among

lacks_flags-chain : (flags narrow wide : ℕ) → lacks_flags flags narrow ≡ true → has_flags narrow wide ≡ true → lacks_flags flags wide ≡ true
lacks_flags-chain flags narrow wide met among = chain_lacks flags narrow wide all_flags met among

-- the same of days
since-chain : (day narrow wide : ℕ) → nat_le narrow day ≡ true → nat_le wide narrow ≡ true → nat_le wide day ≡ true
since-chain day narrow wide met among = grind (arith, leb-true, le-leb)

-- the five parts of a test, and such a test from its parts
record AllTrue (a b c d e : Bool) : Type 0 where
  first : a ≡ true
  second : b ≡ true
  third : c ≡ true
  fourth : d ≡ true
  fifth : e ≡ true

parts_of : (a b c d e : Bool) → (a && b && c && d && e) ≡ true → AllTrue a b c d e
parts_of a b c d e h =
    let abcd = first_so (a && b && c && d) e h in
    let abc = first_so (a && b && c) d abcd in
    let ab = first_so (a && b) c abc in
    record { first = first_so a b ab; second = second_so a b ab; third = second_so (a && b) c abc; fourth = second_so (a && b && c) d abcd; fifth = second_so (a && b && c && d) e h }

true_from_parts : (a b c d e : Bool) → AllTrue a b c d e → (a && b && c && d && e) ≡ true
true_from_parts a b c d e all = both_true (both_true (both_true (both_true all.first all.second) all.third) all.fourth) all.fifth

-- what meets a clause meets each that is as wide
meets-chain : (card : MailCard) (narrow wide : ClauseParts) → meets card narrow ≡ true → is_as_wide wide narrow ≡ true → meets card wide ≡ true
meets-chain card narrow wide met as_wide = grind (arith, parts_of, true_from_parts, since-chain, has_flags-chain, lacks_flags-chain, has_labels-chain, lacks_labels-chain)

-- what meets a clause is selected by a filter with a clause that is as wide
selects_wider : (card : MailCard) (narrow : ClauseParts) (filter : List ClauseParts) → meets card narrow ≡ true → list_any (λ wide. is_as_wide wide narrow) filter ≡ true → selects filter card ≡ true
selects_wider card narrow [] met wider = cc
selects_wider card narrow (c ∷ filter) met wider = grind (arith, selects_wider card narrow filter met, or_cases, or_first, meets-chain, or_second)

pub covers-sound : (filter other : List ClauseParts) → IsTrue (covers filter other) → (card : MailCard) → IsTrue (selects other card) → IsTrue (selects filter card)
covers-sound filter [] covered card selected = cc
covers-sound filter (d ∷ other) covered card selected =
    elim (or_cases (meets card d) (selects other card) selected) [
      | inl here ↦ selects_wider card d filter here (first_so (list_any (λ wide. is_as_wide wide d) filter) (covers filter other) covered)
      | inr later ↦ covers-sound filter other (second_so (list_any (λ wide. is_as_wide wide d) filter) (covers filter other) covered) card later
    ]
