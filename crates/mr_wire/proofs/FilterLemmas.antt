-- Labels, clauses and filters are read from their parts.
use Rattle.std.proofs.Common.{◌≡◌, ℕ, ◌≤◌, ◌+◌, List, length, Option, Some, None, refl, ◌∙◌, arith}
use Rattle.mr_wire.proofs.Names.{ClauseParts, IfSome, IsFilter, IsLabelSet, IsSomeAnd, Stands, Vec, clause_at, clause_with, filter_at, flags_at}
use Rattle.mr_wire.proofs.Names.{if◌then◌else◌, label_at, labels_at, le-leb, nat_le, next_label, number_at, run_at, w16, w8}
use Rattle.mr_wire.proofs.Laws.{reads_run}
use Rattle.mr_wire.proofs.FilterLaws.{reads_label, reads_label_set, reads_filter, same_clause}

pub if_set : (kept : Option (Vec (List ℕ))) (part : List (List ℕ)) → IfSome kept (λ v. v.items ≡ part) → IsLabelSet part → IfSome kept (λ v. IsLabelSet v.items)
if_set kept part is set = grind arith

few_of : (wanted barred : Option (Vec (List ℕ))) (a b : List (List ℕ)) → IfSome wanted (λ v. v.items ≡ a) → IfSome barred (λ v. v.items ≡ b) → length a + length b ≤ 8 → IfSome wanted (λ v. IfSome barred (λ w. length v.items + length w.items ≤ 8))
few_of wanted barred a b is_a is_b few = grind arith

kept_clause : (clause : Option ClauseParts) (wanted barred : Option (Vec (List ℕ))) (a b : List (List ℕ)) (on off since : ℕ) → IfSome wanted (λ v. v.items ≡ a) → IfSome barred (λ v. v.items ≡ b) →
    IfSome clause (λ c. IsSomeAnd wanted (λ v. IsSomeAnd barred (λ w. c ≡ clause_with v.items w.items on off since))) → IfSome clause (λ c. c ≡ clause_with a b on off since)
kept_clause clause wanted barred a b on off since is_a is_b made = grind arith

pub kept_list : {X : Type 0} (list : Option (List X)) (kept : Option (Vec X)) (part : List X) → IfSome kept (λ v. v.items ≡ part) → IfSome list (λ x. IsSomeAnd kept (λ v. x ≡ v.items)) → IfSome list (λ x. x ≡ part)
kept_list list kept part is made = grind arith

if_is : (kept : Option (Vec ClauseParts)) (part : List ClauseParts) → IfSome kept (λ v. v.items ≡ part) → IsFilter part → IfSome kept (λ v. IsFilter v.items)
if_is kept part is set = grind arith

pub stands_labels : (old r1 : List ℕ) (count : ℕ) → number_at w8 old ≡ Some (count, r1) → count ≤ 16 → (kept : Option (Vec (List ℕ))) (new : List ℕ) →
    Stands (λ (v : Vec (List ℕ)). v.items) (run_at label_at next_label None count) r1 kept new (λ _. Unit {0}) →
    Stands (λ (v : Vec (List ℕ)). v.items) labels_at old kept new (λ labels. length labels ≡ count)
stands_labels old r1 count e few kept new s =
    let run = (reads_run next_label reads_label None count).takes r1 s.part new s.stands in
    record { part = s.part; stands = rw (e, le-leb count 16 few, s.stands) refl; is_part = s.is_part; told = run.1.0 }

-- ---- clauses

pub few_labels : {old new : List ℕ} {kept : Option (Vec (List ℕ))} {n : ℕ} → Stands (λ (v : Vec (List ℕ)). v.items) labels_at old kept new (λ labels. length labels ≡ n) → n ≤ 16
few_labels {old} {new} s = let set = (reads_label_set.takes old s.part new s.stands).1 in let le = set.few in omega (arith, s.told)

module _ (old r1 r2 r3 r4 new : List ℕ) (wanted barred : Option (Vec (List ℕ))) (n m on off since : ℕ) (s1 : Stands (λ (v : Vec (List ℕ)). v.items) labels_at old wanted r1 (λ labels. length labels ≡ n)) (s2 : Stands (λ (v : Vec (List ℕ)). v.items) labels_at r1 barred r2 (λ labels. length labels ≡ m))
    (e3 : flags_at r2 ≡ Some (on, r3)) (e4 : flags_at r3 ≡ Some (off, r4)) (e5 : number_at w16 r4 ≡ Some (since, new)) where
  clause_test : clause_at old ≡ (if nat_le (n + m) 8 then Some (clause_with s1.part s2.part on off since, new) else None)
  clause_test = rw (s1.stands, s2.stands, e3, e4, e5, s1.told, s2.told) refl

  pub is_clause : n + m ≤ 8 → clause_at old ≡ Some (clause_with s1.part s2.part on off since, new)
  is_clause le = clause_test ∙ rw (le-leb (n + m) 8 le) refl

  pub if_wanted : IfSome wanted (λ v. IsLabelSet v.items)
  if_wanted = if_set wanted s1.part s1.is_part ((reads_label_set.takes old s1.part r1 s1.stands).1)

  pub if_barred : IfSome barred (λ v. IsLabelSet v.items)
  if_barred = if_set barred s2.part s2.is_part ((reads_label_set.takes r1 s2.part r2 s2.stands).1)

  pub if_few : n + m ≤ 8 → IfSome wanted (λ a. IfSome barred (λ b. length a.items + length b.items ≤ 8))
  if_few le = few_of wanted barred s1.part s2.part s1.is_part s2.is_part (omega (arith, s1.told, s2.told))

  pub stands_clause : n + m ≤ 8 → (clause : Option ClauseParts) → IfSome clause (λ c. IsSomeAnd wanted (λ a. IsSomeAnd barred (λ b. c ≡ clause_with a.items b.items on off since))) →
      Stands (λ (c : ClauseParts). c) clause_at old clause new (λ _. Unit {0})
  stands_clause le clause made = grind (arith, is_clause, kept_clause)

-- ---- filters

pub stands_filter : (old r1 : List ℕ) (count : ℕ) → number_at w8 old ≡ Some (count, r1) → count ≤ 16 → (filter : Option (List ClauseParts)) (kept : Option (Vec ClauseParts)) (new : List ℕ) →
    Stands (λ (v : Vec ClauseParts). v.items) (run_at (λ (_ : ℕ). clause_at) same_clause 0 count) r1 kept new (λ _. Unit {0}) → IfSome filter (λ f. IsSomeAnd kept (λ v. f ≡ v.items)) →
    Stands (λ (f : List ClauseParts). f) filter_at old filter new (λ _. Unit {0})
stands_filter old r1 count e few filter kept new s made = grind (arith, le-leb, kept_list)

pub if_filter : (old r1 : List ℕ) (count : ℕ) → number_at w8 old ≡ Some (count, r1) → count ≤ 16 → (kept : Option (Vec ClauseParts)) (new : List ℕ) →
    Stands (λ (v : Vec ClauseParts). v.items) (run_at (λ (_ : ℕ). clause_at) same_clause 0 count) r1 kept new (λ _. Unit {0}) → IfSome kept (λ v. IsFilter v.items)
if_filter old r1 count e few kept new s =
    let stands : filter_at old ≡ Some (s.part, new) = rw (e, le-leb count 16 few, s.stands) refl in
    if_is kept s.part s.is_part ((reads_filter.takes old s.part new stands).1)
