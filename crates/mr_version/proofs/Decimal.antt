use Rattle.std.proofs.Common.{◌≡◌, ◌<◌, ◌≤◌, ◌^◌, ℕ, zero, suc, List, length, get_or, Result, Ok, Err, IsOk, IfOk, IfSome, Option, None, Some, Bor, refl, sym, ◌∙◌, ap, arith}
use Rattle.std.specs.Option.{MatchOption}
use Rattle.std.specs.Result.{result_ok}
use Rattle.std.proofs.lemmas.Fmt.{decimal_digit, first_decimal, decimal-digits_value, digits_decimal}
use Rattle.std.proofs.lemmas.Str.Parse.{IsNumeralModel, numerals_by_value, tells_digits, parse_plain, not_in_digits}
use Rattle.std.proofs.lemmas.Str.Pattern.{IsSplitOnceResult, split_after}
use Rattle.std.specs.Fmt.{decimal}
use Rattle.std.specs.Str.Parse.{AllDigits, ParsesUnsigned, digits_value}
use Rattle.mr_version.specs.inner.Number.{IsPlain}
use Rattle.mr_version.specs.Name.{Name, IsVersion, name_text}

-- digits, and what they are worth
numerals : IsNumeralModel (AllDigits 10) (digits_value 10)
numerals = numerals_by_value (AllDigits 10) tells_digits

-- a number is written plainly
pub IsPlain-decimal : (n : ℕ) → n < 2 ^ 64 → IsPlain (decimal n)
IsPlain-decimal zero small = rw (decimal_digit 0 (omega arith)) (record { no_sign = λ e. omega arith; no_zeros = λ _. omega arith })
IsPlain-decimal (suc n) small =
    let first : 48 < get_or (decimal (suc n)) 0 0 = first_decimal (suc n) (omega arith) small in
    record { no_sign = λ e. omega arith; no_zeros = λ e. omega arith }

-- what is read of a plain text is the number that is so written
pub decimal-parse : {E : Type 0} (text : List ℕ) (r : Result ℕ E) → ParsesUnsigned 64 10 text r → IsPlain text → IfSome (result_ok r) (λ n. text ≡ decimal n)
decimal-parse text (Err e) h plain = tt
decimal-parse {E} text (Ok n) h plain =
    let (parts, value) = parse_plain numerals {E = E} 64 text (Ok n) h plain.no_sign in
    rw value (sym (decimal-digits_value numerals text parts.0 parts.1 (λ zero_first. let short : length text ≤ 1 = plain.no_zeros zero_first in omega arith) (omega arith)))

-- the first dot of a version's text is the one between its numbers
pub split-name_text : (v : Name) (r : Option (Bor (List ℕ) × Bor (List ℕ))) → IsVersion v.author v.counter → IsSplitOnceResult 46 (name_text v) r → MatchOption r ⊥ (λ x. (x.0.now ≡ decimal v.author) × (x.1.now ≡ decimal v.counter))
split-name_text v r is split =
    split_after 46 (name_text v) (decimal v.author) (decimal v.counter) r split (omega arith) refl
    (not_in_digits numerals (decimal v.author) 46 (digits_decimal numerals v.author (omega arith)) (λ digit. omega arith))

pub none_is_not_some : {A : Type 0} (o : Option A) (x : A) → o ≡ None → o ≡ Some x → ⊥
none_is_not_some o x none some = cc

pub same_payload : {A : Type 0} (o : Option A) (x y : A) → o ≡ Some x → o ≡ Some y → x ≡ y
same_payload o x y one other = cc

-- names with the same parts are one
same_parts : (a b : Name) → a.author ≡ b.author → a.counter ≡ b.counter → a ≡ b
same_parts a b author counter =
    let made : ℕ → ℕ → Name = λ (x y : ℕ). record { author = x; counter = y } in
    ap (λ (x : ℕ). made x a.counter) author ∙ ap (λ (y : ℕ). made b.author y) counter

-- a version that is made of a version's parts is that version
pub result_ok-parts : {E : Type 0} (r : Result Name E) (author counter : ℕ) (v : Name) → IsOk r → IfOk r (λ w. (w.author ≡ author) × (w.counter ≡ counter)) → author ≡ v.author → counter ≡ v.counter → result_ok r ≡ Some v
result_ok-parts (Ok w) author counter v is parts same_author same_counter = ap Some (same_parts w v (parts.0 ∙ same_author) (parts.1 ∙ same_counter))
result_ok-parts (Err e) author counter v is parts same_author same_counter = cc
