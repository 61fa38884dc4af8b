-- a text's filter selects what some clause of the text is true of
use Rattle.std.proofs.Common.{◌≡◌, ℕ, ◌≤◌, max, Bool, true, not, ◌&&◌, ◌||◌, List, [], ◌∷◌, ◌∙◌, ap, refl, arith, inl, inr, codes}
use Rattle.mr_filter.proofs.Names.{AllZip, AreLabelsOf, ClauseParts, Combines, Condition, HasFlag, HasLabel, HasTrueClause, IsCard, IsTrue, IsTrueClause}
use Rattle.mr_filter.proofs.Names.{LacksFlag, LacksLabel, MailCard, Reads, ReadsClause, Since, barred_labels, bit_of, bit_or, bit_or-bit_of, bits_off}
use Rattle.mr_filter.proofs.Names.{bits_on, both_true, clauses_of, has_flags, has_flags-or, has_label, has_labels, is_true_of, lacks_flags, lacks_flags-or}
use Rattle.mr_filter.proofs.Names.{lacks_labels, latest_day, le-leb, leb-true, list_all, meets, nat_le, nat_list_eq_equiv, or_zero_r, selects, text_eq}
use Rattle.mr_filter.proofs.Names.{wanted_labels, ◌↔◌}
use Rattle.std.proofs.lemmas.Nat.{or_comm}
use Rattle.mr_filter.proofs.MeaningLemmas.{or_cases, or_first, or_second, has_labels-chain, lacks_labels-chain}
use Rattle.mr_filter.proofs.UniqueLemmas.{SpellsConditions-unique, none_is_no_clause}

-- ---- labels: a list, and one that names the same

all_named : (labels names : List (List ℕ)) → ((label : List ℕ) → has_label names label ≡ true → has_label labels label ≡ true) → has_labels labels names ≡ true
all_named labels [] named = refl
all_named labels (x ∷ names) named =
    both_true
    (named x (or_first (text_eq x x) (has_label names x) (nat_list_eq_equiv.refl x)))
    (all_named labels names (λ label h. named label (or_second (text_eq label x) (has_label names label) h)))

has_labels-same : (labels given names : List (List ℕ)) → AreLabelsOf given names → has_labels labels names ≡ has_labels labels given
has_labels-same labels given names are = grind (arith, has_labels-chain, all_named)

lacks_labels-same : (labels given names : List (List ℕ)) → AreLabelsOf given names → lacks_labels labels names ≡ lacks_labels labels given
lacks_labels-same labels given names are = grind (arith, lacks_labels-chain, all_named)

-- ---- the five parts of a clause, and one condition more

max-zero : (n : ℕ) → max 0 n ≡ n
max-zero n = omega arith

or-zero : (n : ℕ) → bit_or 0 n ≡ n
or-zero n = or_comm 0 n ∙ or_zero_r n

later_of : (a b day : ℕ) → nat_le (max a b) day ≡ (nat_le a day && nat_le b day)
later_of a b day = grind (arith, max, leb-true, le-leb)

bits_on-within : (given : List Condition) → bits_on given ≤ 31
bits_on-within [] = omega arith
bits_on-within (HasFlag flag ∷ given) = rw (or_comm (bit_of flag) (bits_on given)) (bit_or-bit_of (bits_on given) flag (bits_on-within given))
bits_on-within (HasLabel _ ∷ given) = rw (or-zero (bits_on given)) (bits_on-within given)
bits_on-within (LacksLabel _ ∷ given) = rw (or-zero (bits_on given)) (bits_on-within given)
bits_on-within (LacksFlag _ ∷ given) = rw (or-zero (bits_on given)) (bits_on-within given)
bits_on-within (Since _ ∷ given) = rw (or-zero (bits_on given)) (bits_on-within given)

bits_off-within : (given : List Condition) → bits_off given ≤ 31
bits_off-within [] = omega arith
bits_off-within (LacksFlag flag ∷ given) = rw (or_comm (bit_of flag) (bits_off given)) (bit_or-bit_of (bits_off given) flag (bits_off-within given))
bits_off-within (HasLabel _ ∷ given) = rw (or-zero (bits_off given)) (bits_off-within given)
bits_off-within (LacksLabel _ ∷ given) = rw (or-zero (bits_off given)) (bits_off-within given)
bits_off-within (HasFlag _ ∷ given) = rw (or-zero (bits_off given)) (bits_off-within given)
bits_off-within (Since _ ∷ given) = rw (or-zero (bits_off given)) (bits_off-within given)

-- the five parts of conditions, true together
parts : MailCard → List Condition → Bool
parts card given =
    nat_le (latest_day given) card.day
    && has_flags card.flags (bits_on given) && lacks_flags card.flags (bits_off given)
    && has_labels card.labels (wanted_labels given) && lacks_labels card.labels (barred_labels given)

pull_second : (h a b c d e : Bool) → (a && (h && b) && c && d && e) ≡ (h && (a && b && c && d && e))
pull_second h a b c d e = grind arith

pull_third : (h a b c d e : Bool) → (a && b && (h && c) && d && e) ≡ (h && (a && b && c && d && e))
pull_third h a b c d e = grind arith

pull_fourth : (h a b c d e : Bool) → (a && b && c && (h && d) && e) ≡ (h && (a && b && c && d && e))
pull_fourth h a b c d e = grind arith

pull_fifth : (h a b c d e : Bool) → (a && b && c && d && (h && e)) ≡ (h && (a && b && c && d && e))
pull_fifth h a b c d e = grind arith

pull_first : (h a b c d e : Bool) → ((h && a) && b && c && d && e) ≡ (h && (a && b && c && d && e))
pull_first h a b c d e = grind arith

-- a barred label more
not_or : (a b : Bool) → not (a || b) ≡ (not a && not b)
not_or a b = grind arith

parts-one : (card : MailCard) (c : Condition) (given : List Condition) → card.flags ≤ 31 → parts card (c ∷ given) ≡ (is_true_of card c && parts card given)
unfolding parts
parts-one card c given within = grind (arith, max-zero, or-zero, pull_fourth, not_or, pull_fifth, has_flags-or, bits_on-within, pull_second, lacks_flags-or, bits_off-within, pull_third, later_of, pull_first)

parts-all : (card : MailCard) (given : List Condition) → card.flags ≤ 31 → parts card given ≡ list_all (is_true_of card) given
unfolding parts
parts-all card [] within = rw (le-leb 0 card.day (omega arith)) refl
parts-all card (c ∷ given) within = parts-one card c given within ∙ ap (λ b. is_true_of card c && b) (parts-all card given within)

-- a message meets a clause where each of its conditions is true
meets-given : (card : MailCard) (given : List Condition) (clause : ClauseParts) → card.flags ≤ 31 → Combines given clause → meets card clause ≡ list_all (is_true_of card) given
unfolding parts
meets-given card given clause within combined =
    rw (combined.since, combined.on, combined.off, has_labels-same card.labels (wanted_labels given) clause.all_labels combined.wanted, lacks_labels-same card.labels (barred_labels given) clause.no_labels combined.barred)
    (parts-all card given within)

-- ---- whole texts

true_clause : (card : MailCard) (text : List ℕ) (clause : ClauseParts) → card.flags ≤ 31 → ReadsClause text clause → meets card clause ≡ true → IsTrueClause card text
true_clause card text clause within reads met = grind (arith, meets-given)

met_clause : (card : MailCard) (text : List ℕ) (clause : ClauseParts) → card.flags ≤ 31 → ReadsClause text clause → IsTrueClause card text → meets card clause ≡ true
met_clause card text clause within reads is =
    let one = SpellsConditions-unique text reads.given is.given reads.spelled is.spelled in
    meets-given card reads.given clause within reads.combined ∙ ap (list_all (is_true_of card)) one ∙ is.each

selected_clause : (card : MailCard) (texts : List (List ℕ)) (filter : List ClauseParts) → card.flags ≤ 31 → AllZip ReadsClause texts filter → selects filter card ≡ true → HasTrueClause card texts
selected_clause card [] [] within reads selected = cc
selected_clause card [] (c ∷ filter) within reads selected = absurd reads
selected_clause card (t ∷ texts) [] within reads selected = absurd reads
selected_clause card (t ∷ texts) (c ∷ filter) within reads selected =
    elim (or_cases (meets card c) (selects filter card) selected) [
      | inl here ↦ inl (true_clause card t c within reads.0 here)
      | inr later ↦ inr (selected_clause card texts filter within reads.1 later)
    ]

clause_selected : (card : MailCard) (texts : List (List ℕ)) (filter : List ClauseParts) → card.flags ≤ 31 → AllZip ReadsClause texts filter → HasTrueClause card texts → selects filter card ≡ true
clause_selected card [] filter within reads has = absurd has
clause_selected card (t ∷ texts) [] within reads has = absurd reads
clause_selected card (t ∷ texts) (c ∷ filter) within reads has =
    elim has [
      | inl here ↦ or_first (meets card c) (selects filter card) (met_clause card t c within reads.0 here)
      | inr later ↦ or_second (meets card c) (selects filter card) (clause_selected card texts filter within reads.1 later)
    ]

none_is_true : (card : MailCard) → HasTrueClause card (clauses_of (codes "none")) → ⊥
none_is_true card has = grind (arith, none_is_no_clause)

pub selects_by_text : (text : List ℕ) (filter : List ClauseParts) → Reads text filter → (card : MailCard) → IsCard card → (IsTrue (selects filter card) ↔ HasTrueClause card (clauses_of text))
selects_by_text text filter reads card is = grind (arith, none_is_true, selected_clause, clause_selected)
