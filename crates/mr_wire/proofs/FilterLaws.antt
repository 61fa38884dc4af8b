-- The laws of labels, clauses and filters.
use Rattle.std.proofs.Common.{◌≡◌, ℕ, ◌+◌, ◌<◌, ◌≤◌, true, ◌&&◌, List, [], ◌∷◌, length, Option, Some, None, refl, arith}
use Rattle.mr_wire.proofs.Names.{All-from_recursion, AllByRecursion, ClauseParts, IsClause, IsFilter, IsLabelSet, clause_at, clause_bytes, clause_with}
use Rattle.mr_wire.proofs.Names.{filter_at, filter_bytes, flags_at, flat_map, is_label, is_label_byte, label_at, label_bytes, label_follows, labels_at}
use Rattle.mr_wire.proofs.Names.{labels_bytes, le-leb, leb-true, list_all, nat_le, next_label, number_at, only_at, recursion_from_All, run_at, text_cmp, u8}
use Rattle.mr_wire.proofs.Names.{w8}
use Rattle.std.specs.List.Sorted.{IsStrictlySortedBy}
use Rattle.std.specs.declared.cmp.Ordering.TheVariants.{Less}
use Rattle.std.specs.Ordering.{is_lt}
use Rattle.std.specs.declared.cmp.Ordering.{Ordering}
use Rattle.std.specs.Cmp.Lexicographic.{nat_list_cmp_total}
use Rattle.mr_wire.proofs.Laws.{Reads, RunFits, and_left, and_right, reads_like, reads_only, reads_as, reads_then, reads_counted, reads_run, reads_u8, reads_u16, reads_bytes}
use Rattle.mr_wire.proofs.PartLaws.{both}

abbrev pub LabelFits : Option (List ℕ) → List ℕ → Type 0
LabelFits before label = ((length label < 256) × Unit {0}) × ((is_label label && label_follows before label) ≡ true)

pub reads_label : (before : Option (List ℕ)) → Reads (LabelFits before) label_bytes (label_at before)
reads_label before = reads_only (λ label. is_label label && label_follows before label) (reads_counted length reads_u8 reads_bytes)

pub few_sixteen : Reads (λ n. n ≤ 16) u8 (only_at (λ n. nat_le n 16) (number_at w8))
few_sixteen = reads_like (λ n. n ≤ 16) u8 (reads_only (λ n. nat_le n 16) reads_u8) (λ n h. leb-true n 16 h.1) (λ n h. (omega arith, le-leb n 16 h)) (λ n. refl)

-- ---- labels that rise one by one rise as a list

reads_labels : Reads (λ labels. (length labels ≤ 16) × RunFits LabelFits next_label None labels) labels_bytes labels_at
reads_labels = reads_counted length few_sixteen (λ n. reads_run next_label reads_label None n)

is_less : (o : Ordering) → is_lt o ≡ true → o ≡ Less
is_less o h = grind arith

all_above : (xs : List (List ℕ)) (a b : List ℕ) → text_cmp a b ≡ Less → AllByRecursion (λ y. text_cmp b y ≡ Less) xs → AllByRecursion (λ y. text_cmp a y ≡ Less) xs
all_above [] a b lt h = tt
all_above (x ∷ xs) a b lt h = (nat_list_cmp_total.trans a b x lt h.0, all_above xs a b lt h.1)

above_before : (xs : List (List ℕ)) (before : List ℕ) → RunFits LabelFits next_label (Some before) xs → AllByRecursion (λ y. text_cmp before y ≡ Less) xs
above_before [] before h = tt
above_before (x ∷ xs) before h = grind (arith, above_before xs x h.1, is_less, and_right, all_above)

labels_rise : (xs : List (List ℕ)) (before : Option (List ℕ)) → RunFits LabelFits next_label before xs → IsStrictlySortedBy text_cmp xs
unfolding IsStrictlySortedBy
labels_rise [] before h = tt
labels_rise (x ∷ xs) before h = (above_before xs x h.1, labels_rise xs (Some x) h.1)

labels_are : (xs : List (List ℕ)) (before : Option (List ℕ)) → RunFits LabelFits next_label before xs → AllByRecursion (λ x. is_label x ≡ true) xs
labels_are [] before h = tt
labels_are (x ∷ xs) before h = (and_left (is_label x) (label_follows before x) h.0.1, labels_are xs (Some x) h.1)

-- the first label may follow the one before
abbrev Heads : Option (List ℕ) → List (List ℕ) → Type 0
Heads before [] = Unit {0}
Heads before (x ∷ xs) = label_follows before x ≡ true

heads_next : (x : List ℕ) (xs : List (List ℕ)) → AllByRecursion (λ y. text_cmp x y ≡ Less) xs → Heads (Some x) xs
heads_next x xs h = grind arith

label_short : (x : List ℕ) → is_label x ≡ true → length x < 256
label_short x h = let le = leb-true (length x) 32 (and_right (nat_le 1 (length x)) (nat_le (length x) 32) (and_left (nat_le 1 (length x) && nat_le (length x) 32) (list_all is_label_byte x) h)) in omega arith

labels_fit : (xs : List (List ℕ)) (before : Option (List ℕ)) → IsStrictlySortedBy text_cmp xs → AllByRecursion (λ x. is_label x ≡ true) xs → Heads before xs → RunFits LabelFits next_label before xs
unfolding IsStrictlySortedBy
labels_fit [] before rising are head = tt
labels_fit (x ∷ xs) before rising are head = grind (arith, labels_fit xs, label_short, both, heads_next)

heads_none : (xs : List (List ℕ)) → Heads None xs
heads_none xs = grind arith

pub reads_label_set : Reads IsLabelSet labels_bytes labels_at
reads_label_set = grind (arith, reads_like, reads_labels, labels_rise, All-from_recursion, labels_are, labels_fit, recursion_from_All, heads_none)

pub reads_flags : Reads (λ n. n ≤ 31) u8 flags_at
reads_flags = reads_like (λ n. n ≤ 31) u8 (reads_only (λ n. nat_le n 31) reads_u8) (λ n h. leb-true n 31 h.1) (λ n h. (omega arith, le-leb n 31 h)) (λ n. refl)

pub reads_clause : Reads IsClause clause_bytes clause_at
reads_clause = reads_like IsClause clause_bytes
    (reads_only (λ (clause : ClauseParts). nat_le (length clause.all_labels + length clause.no_labels) 8)
    (reads_as (λ (p : List (List ℕ) × (List (List ℕ) × (ℕ × (ℕ × ℕ)))). clause_with p.0 p.1.0 p.1.1.0 p.1.1.1.0 p.1.1.1.1) (λ (c : ClauseParts). (c.all_labels, (c.no_labels, (c.flags_on, (c.flags_off, c.since))))) (λ c. refl) (λ p. refl)
    (reads_then reads_label_set (λ _. reads_then reads_label_set (λ _. reads_then reads_flags (λ _. reads_then reads_flags (λ _. reads_u16)))))))
    (λ c h. record { wanted = h.0.0; barred = h.0.1.0; few = leb-true _ _ h.1; on_in = h.0.1.1.0; off_in = h.0.1.1.1.0; since_in = h.0.1.1.1.1 })
    (λ c h. ((h.wanted, (h.barred, (h.on_in, (h.off_in, h.since_in)))), le-leb _ _ h.few))
    (λ c. refl)

abbrev pub same_clause : ℕ → ClauseParts → ℕ
same_clause _ _ = 0

clauses_are : (xs : List ClauseParts) (s : ℕ) → RunFits (λ (_ : ℕ). IsClause) same_clause s xs → AllByRecursion IsClause xs
clauses_are [] s h = tt
clauses_are (x ∷ xs) s h = (h.0, clauses_are xs 0 h.1)

clauses_fit : (xs : List ClauseParts) (s : ℕ) → AllByRecursion IsClause xs → RunFits (λ (_ : ℕ). IsClause) same_clause s xs
clauses_fit [] s h = tt
clauses_fit (x ∷ xs) s h = (h.0, clauses_fit xs 0 h.1)

pub clause_run : (n : ℕ) → Reads (λ xs. (length xs ≡ n) × RunFits (λ (_ : ℕ). IsClause) same_clause 0 xs) (flat_map clause_bytes) (run_at (λ (_ : ℕ). clause_at) same_clause 0 n)
clause_run n = reads_run same_clause (λ _. reads_clause) 0 n

pub reads_filter : Reads IsFilter filter_bytes filter_at
reads_filter = reads_like IsFilter filter_bytes (reads_counted length few_sixteen clause_run)
    (λ xs h. record { each = All-from_recursion IsClause xs (clauses_are xs 0 h.1); few = h.0 })
    (λ xs h. (h.few, clauses_fit xs 0 (recursion_from_All IsClause xs h.each)))
    (λ xs. refl)
