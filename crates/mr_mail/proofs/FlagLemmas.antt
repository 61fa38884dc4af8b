-- bits of flags
use Rattle.std.proofs.Common.{◌≡◌, ℕ, zero, suc, ◌<◌, ◌≤◌, ◌^◌, ◌&&◌, ◌||◌, Bool, true, false, not, inl, inr, refl, sym, [], ◌∷◌, arith, lit<}
use Rattle.std.specs.Prelude.{◌==◌}
use Rattle.std.specs.Int.RustNames.{bit_and, bit_or}
use Rattle.std.specs.List.{list_all}
use Rattle.std.specs.Cmp.{first_so, second_so}
use Rattle.std.specs.Cmp.Derive.{both_true}
use Rattle.std.proofs.lemmas.Bool.{eqb-true, cases_lt}
use Rattle.std.proofs.lemmas.Nat.{or_lt}
use Rattle.mr_mail.specs.Flag.{bit_of, has_flag, has_flags, lacks_flags, all_flags}
use Rattle.mr_mail.specs.declared.flags.Flag.{Flag}
use Rattle.mr_mail.specs.declared.flags.Flag.TheVariants.{Seen, Answered, Flagged, Draft, Deleted}

-- a flag's bit is one of five
pub bit_of-lt : (flag : Flag) → bit_of flag < 2 ^ 5
bit_of-lt Seen = lit< tt
bit_of-lt Answered = lit< tt
bit_of-lt Flagged = lit< tt
bit_of-lt Draft = lit< tt
bit_of-lt Deleted = lit< tt

-- a flag byte stays one with one more flag
pub bit_or-bit_of : (bits : ℕ) (flag : Flag) → bits ≤ 31 → bit_or bits (bit_of flag) ≤ 31
bit_or-bit_of bits flag within =
    let low : bits < 2 ^ 5 = omega arith in
    let kept : bit_or bits (bit_of flag) < 2 ^ 5 = or_lt 5 bits (bit_of flag) low (bit_of-lt flag) in
    omega arith

-- a number below a bound passes what each does
abbrev pub passes_below : ℕ → (ℕ → Bool) → Bool
passes_below zero test = true
passes_below (suc k) test = test k && passes_below k test

pub passes-below : (k : ℕ) (test : ℕ → Bool) → passes_below k test ≡ true → (n : ℕ) → n < k → test n ≡ true
passes-below zero test each n below = absurd (omega arith)
passes-below (suc k) test each n below =
    elim (cases_lt n k) [
      | inl less ↦ passes-below k test (second_so (test k) (passes_below k test) each) n less
      | inr more ↦ let same : n ≡ k = omega arith in rw same (first_so (test k) (passes_below k test) each)
    ]

-- the same of two numbers
passes_both : (k : ℕ) (test : ℕ → ℕ → Bool) → passes_below k (λ a. passes_below k (test a)) ≡ true → (a b : ℕ) → a < k → b < k → test a b ≡ true
passes_both k test each a b a_below b_below =
    passes-below k (test a) (passes-below k (λ n. passes_below k (test n)) each a a_below) b b_below

-- a flag passes what each does
each_flag : (test : Flag → Bool) → list_all test all_flags ≡ true → (flag : Flag) → test flag ≡ true
each_flag test each Seen = first_so (test Seen) (list_all test (Answered ∷ Flagged ∷ Draft ∷ Deleted ∷ [])) each
each_flag test each Answered =
    let rest = second_so (test Seen) (list_all test (Answered ∷ Flagged ∷ Draft ∷ Deleted ∷ [])) each in
    first_so (test Answered) (list_all test (Flagged ∷ Draft ∷ Deleted ∷ [])) rest
each_flag test each Flagged =
    let rest = second_so (test Seen) (list_all test (Answered ∷ Flagged ∷ Draft ∷ Deleted ∷ [])) each in
    let later = second_so (test Answered) (list_all test (Flagged ∷ Draft ∷ Deleted ∷ [])) rest in
    first_so (test Flagged) (list_all test (Draft ∷ Deleted ∷ [])) later
each_flag test each Draft =
    let rest = second_so (test Seen) (list_all test (Answered ∷ Flagged ∷ Draft ∷ Deleted ∷ [])) each in
    let later = second_so (test Answered) (list_all test (Flagged ∷ Draft ∷ Deleted ∷ [])) rest in
    let last = second_so (test Flagged) (list_all test (Draft ∷ Deleted ∷ [])) later in
    first_so (test Draft) (list_all test (Deleted ∷ [])) last
each_flag test each Deleted =
    let rest = second_so (test Seen) (list_all test (Answered ∷ Flagged ∷ Draft ∷ Deleted ∷ [])) each in
    let later = second_so (test Answered) (list_all test (Flagged ∷ Draft ∷ Deleted ∷ [])) rest in
    let last = second_so (test Flagged) (list_all test (Draft ∷ Deleted ∷ [])) later in
    first_so (test Deleted) true (second_so (test Draft) (list_all test (Deleted ∷ [])) last)

-- whether two answers are one
same : Bool → Bool → Bool
same true b = b
same false b = not b

same-true : (a b : Bool) → same a b ≡ true → a ≡ b
unfolding same
same-true true b h = sym h
same-true false true h = h
same-true false false h = refl

same-refl : (a b : Bool) → a ≡ b → same a b ≡ true
unfolding same
same-refl true b h = sym h
same-refl false true h = h
same-refl false false h = refl

-- the bits of a flag byte, and its flags
pub has_flags_by_bits : (a b : ℕ) → a ≤ 31 → b ≤ 31 → (bit_and a b == b) ≡ has_flags a b
unfolding same
has_flags_by_bits a b a_in b_in =
    same-true (bit_and a b == b) (has_flags a b)
    (passes_both 32 (λ a b. same (bit_and a b == b) (has_flags a b)) refl a b (omega arith) (omega arith))

pub lacks_flags_by_bits : (a b : ℕ) → a ≤ 31 → b ≤ 31 → (bit_and a b == 0) ≡ lacks_flags a b
unfolding same
lacks_flags_by_bits a b a_in b_in =
    same-true (bit_and a b == 0) (lacks_flags a b)
    (passes_both 32 (λ a b. same (bit_and a b == 0) (lacks_flags a b)) refl a b (omega arith) (omega arith))

not_or : (a b : Bool) → (not a || b) ≡ true → a ≡ true → b ≡ true
not_or true b h t = h
not_or false b h t = absurd (cc)

-- flag bytes with the same flags are one
pub flags_alike : (a b : ℕ) → a ≤ 31 → b ≤ 31 → ((f : Flag) → has_flag a f ≡ has_flag b f) → a ≡ b
unfolding same
flags_alike a b a_in b_in alike =
    let both : ℕ → ℕ → Flag → Bool = λ a b f. same (has_flag a f) (has_flag b f) in
    let told : list_all (both a b) all_flags ≡ true =
    both_true (same-refl _ _ (alike Seen)) (both_true (same-refl _ _ (alike Answered)) (both_true (same-refl _ _ (alike Flagged)) (both_true (same-refl _ _ (alike Draft)) (both_true (same-refl _ _ (alike Deleted)) refl)))) in
    eqb-true a b
    (not_or (list_all (both a b) all_flags) (a == b)
    (passes_both 32 (λ a b. not (list_all (both a b) all_flags) || (a == b)) refl a b (omega arith) (omega arith)) told)

-- a flag more among those that are asked for
pub has_flags-or : (bits rest : ℕ) (flag : Flag) → bits ≤ 31 → rest ≤ 31 → has_flags bits (bit_or (bit_of flag) rest) ≡ (has_flag bits flag && has_flags bits rest)
unfolding same
has_flags-or bits rest flag bits_in rest_in =
    let test : ℕ → ℕ → Flag → Bool = λ n m f. same (has_flags n (bit_or (bit_of f) m)) (has_flag n f && has_flags n m) in
    same-true (has_flags bits (bit_or (bit_of flag) rest)) (has_flag bits flag && has_flags bits rest)
    (each_flag (test bits rest) (passes_both 32 (λ n m. list_all (test n m) all_flags) refl bits rest (omega arith) (omega arith)) flag)

pub lacks_flags-or : (bits rest : ℕ) (flag : Flag) → bits ≤ 31 → rest ≤ 31 → lacks_flags bits (bit_or (bit_of flag) rest) ≡ (not (has_flag bits flag) && lacks_flags bits rest)
unfolding same
lacks_flags-or bits rest flag bits_in rest_in =
    let test : ℕ → ℕ → Flag → Bool = λ n m f. same (lacks_flags n (bit_or (bit_of f) m)) (not (has_flag n f) && lacks_flags n m) in
    same-true (lacks_flags bits (bit_or (bit_of flag) rest)) (not (has_flag bits flag) && lacks_flags bits rest)
    (each_flag (test bits rest) (passes_both 32 (λ n m. list_all (test n m) all_flags) refl bits rest (omega arith) (omega arith)) flag)
