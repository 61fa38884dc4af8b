-- a clause's own conditions make the clause again
use Rattle.std.proofs.Common.{◌≡◌, ℕ, ◌≤◌, max, ◌⊎◌, eqb, List, [], ◌∷◌, ◌++◌, map, Option, Some, None, refl, ◌∙◌, ap, arith, append-nil}
use Rattle.mr_filter.proofs.Names.{ClauseParts, Combines, Condition, Flag, HasFlag, HasLabel, IsClause, LacksFlag, LacksLabel, Since, all_bits, all_flags}
use Rattle.mr_filter.proofs.Names.{barred_labels, bit_of, bit_off, bit_on, bit_or, bits_off, bits_on, conditions_of, eqb-true, filter, filter_map}
use Rattle.mr_filter.proofs.Names.{filter_map-append, has_flag, latest_day, or_zero_r, passes-below, since_condition, wanted_labels}
use Rattle.std.proofs.lemmas.Bool.Decides.{eqb_tells}
use Rattle.std.proofs.lemmas.Nat.Bits.{same_from_bits, bit_at_or}

-- what each part of a list of conditions adds
five_parts : {M : Type 0} (h : List Condition → M) (op : M → M → M) → ((xs ys : List Condition) → h (xs ++ ys) ≡ op (h xs) (h ys)) → (a b c d e : List Condition) → h ((((a ++ b) ++ c) ++ d) ++ e) ≡ op (op (op (op (h a) (h b)) (h c)) (h d)) (h e)
five_parts h op law a b c d e = grind arith

filter_map_none : {X Y : Type 0} (h : Condition → Option Y) (f : X → Condition) → ((x : X) → h (f x) ≡ None) → (xs : List X) → filter_map h (map f xs) ≡ []
filter_map_none h f none [] = refl
filter_map_none h f none (x ∷ xs) = rw (none x) (filter_map_none h f none xs)

filter_map_same : {X : Type 0} (h : Condition → Option X) (f : X → Condition) → ((x : X) → h (f x) ≡ Some x) → (xs : List X) → filter_map h (map f xs) ≡ xs
filter_map_same h f same [] = refl
filter_map_same h f same (x ∷ xs) = rw (same x) (ap (λ rest. x ∷ rest) (filter_map_same h f same xs))

or_assoc : (a b c : ℕ) → bit_or (bit_or a b) c ≡ bit_or a (bit_or b c)
or_assoc a b c =
    same_from_bits (bit_or (bit_or a b) c) (bit_or a (bit_or b c))
    (λ i. let w = bit_at_or (bit_or a b) c i in let x = bit_at_or a b i in let y = bit_at_or a (bit_or b c) i in let z = bit_at_or b c i in omega (arith, w, x, y, z))

pub all_bits-append : (bit : Condition → ℕ) (xs ys : List Condition) → all_bits bit (xs ++ ys) ≡ bit_or (all_bits bit xs) (all_bits bit ys)
all_bits-append bit [] ys = refl
all_bits-append bit (x ∷ xs) ys = grind (arith, all_bits-append bit xs ys, or_assoc)

all_bits_none : {X : Type 0} (bit : Condition → ℕ) (f : X → Condition) → ((x : X) → bit (f x) ≡ 0) → (xs : List X) → all_bits bit (map f xs) ≡ 0
all_bits_none bit f none [] = refl
all_bits_none bit f none (x ∷ xs) = rw (none x) (all_bits_none bit f none xs)

-- flags, together
union : List Flag → ℕ
union [] = 0
union (f ∷ fs) = bit_or (bit_of f) (union fs)

all_bits_flags : (bit : Condition → ℕ) (f : Flag → Condition) → ((x : Flag) → bit (f x) ≡ bit_of x) → (xs : List Flag) → all_bits bit (map f xs) ≡ union xs
unfolding union
all_bits_flags bit f same [] = refl
all_bits_flags bit f same (x ∷ xs) = rw (same x) (ap (bit_or (bit_of x)) (all_bits_flags bit f same xs))

-- the flags of a flag byte, together, are the byte
union-flags : (bits : ℕ) → bits ≤ 31 → union (filter (has_flag bits) all_flags) ≡ bits
unfolding union
union-flags bits within =
    eqb-true (union (filter (has_flag bits) all_flags)) bits (passes-below 32 (λ n. eqb (union (filter (has_flag n) all_flags)) n) refl bits (omega arith))

pub latest_day-append : (xs ys : List Condition) → latest_day (xs ++ ys) ≡ max (latest_day xs) (latest_day ys)
latest_day-append [] ys = omega arith
latest_day-append (x ∷ xs) ys = let rest = latest_day-append xs ys in omega (arith, rest)

latest_day_none : {X : Type 0} (f : X → Condition) → ((x : X) → latest_day (f x ∷ []) ≡ 0) → (xs : List X) → latest_day (map f xs) ≡ 0
latest_day_none f none [] = refl
latest_day_none f none (x ∷ xs) = let rest = latest_day_none f none xs in let here = none x in omega (arith, rest, here)

since_cases : (day : ℕ) → ((day ≡ 0) × (since_condition day ≡ [])) ⊎ (since_condition day ≡ Since day ∷ [])
since_cases day = grind (arith, eqb_tells)

latest_day-since : (day : ℕ) → latest_day (since_condition day) ≡ day
latest_day-since day = grind (arith, since_cases, max)

-- what is no day is not named by the condition on one
since_none : {M : Type 0} (h : List Condition → M) (m : M) → h [] ≡ m → ((day : ℕ) → h (Since day ∷ []) ≡ m) → (day : ℕ) → h (since_condition day) ≡ m
since_none h m k other day = grind (arith, since_cases)

-- the parts of a clause's own conditions
parts_of : {M : Type 0} (h : List Condition → M) (op : M → M → M) → ((xs ys : List Condition) → h (xs ++ ys) ≡ op (h xs) (h ys)) → (clause : ClauseParts) (a b c d e : M) → h (map HasLabel clause.all_labels) ≡ a → h (map LacksLabel clause.no_labels) ≡ b → h (map HasFlag (filter (has_flag clause.flags_on) all_flags)) ≡ c → h (map LacksFlag (filter (has_flag clause.flags_off) all_flags)) ≡ d → h (since_condition clause.since) ≡ e → h (conditions_of clause) ≡ op (op (op (op a b) c) d) e
parts_of h op law clause a b c d e pa pb pc pd pe = grind (arith, five_parts)

wanted-conditions_of : (clause : ClauseParts) → wanted_labels (conditions_of clause) ≡ clause.all_labels
wanted-conditions_of clause = grind (arith, parts_of, filter_map-append, filter_map_same, filter_map_none, since_none, append-nil)

barred-conditions_of : (clause : ClauseParts) → barred_labels (conditions_of clause) ≡ clause.no_labels
barred-conditions_of clause = grind (arith, parts_of, filter_map-append, filter_map_none, filter_map_same, since_none, append-nil)

on-conditions_of : (clause : ClauseParts) → clause.flags_on ≤ 31 → bits_on (conditions_of clause) ≡ clause.flags_on
on-conditions_of clause within =
    parts_of bits_on bit_or (all_bits-append bit_on) clause 0 0 clause.flags_on 0 0
    (all_bits_none bit_on HasLabel (λ x. refl) clause.all_labels)
    (all_bits_none bit_on LacksLabel (λ x. refl) clause.no_labels)
    (all_bits_flags bit_on HasFlag (λ x. refl) (filter (has_flag clause.flags_on) all_flags) ∙ union-flags clause.flags_on within)
    (all_bits_none bit_on LacksFlag (λ x. refl) (filter (has_flag clause.flags_off) all_flags))
    (since_none bits_on 0 refl (λ day. refl) clause.since)
    ∙ or_zero_r (bit_or clause.flags_on 0) ∙ or_zero_r clause.flags_on

off-conditions_of : (clause : ClauseParts) → clause.flags_off ≤ 31 → bits_off (conditions_of clause) ≡ clause.flags_off
off-conditions_of clause within =
    parts_of bits_off bit_or (all_bits-append bit_off) clause 0 0 0 clause.flags_off 0
    (all_bits_none bit_off HasLabel (λ x. refl) clause.all_labels)
    (all_bits_none bit_off LacksLabel (λ x. refl) clause.no_labels)
    (all_bits_none bit_off HasFlag (λ x. refl) (filter (has_flag clause.flags_on) all_flags))
    (all_bits_flags bit_off LacksFlag (λ x. refl) (filter (has_flag clause.flags_off) all_flags) ∙ union-flags clause.flags_off within)
    (since_none bits_off 0 refl (λ day. refl) clause.since)
    ∙ or_zero_r clause.flags_off

since-conditions_of : (clause : ClauseParts) → latest_day (conditions_of clause) ≡ clause.since
since-conditions_of clause = grind (arith, parts_of, max, latest_day-append, latest_day_none, latest_day-since)

pub Combines-conditions_of : (clause : ClauseParts) → IsClause clause → Combines (conditions_of clause) clause
Combines-conditions_of clause kept = grind (arith, wanted-conditions_of, barred-conditions_of, on-conditions_of, off-conditions_of, since-conditions_of)
