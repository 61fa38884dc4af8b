-- hexadecimal digits as a part of a path
use Rattle.std.proofs.Common.{◌≡◌, ℕ, suc, ◌/◌, ◌%◌, ◌<◌, Bool, true, not, ◌&&◌, List, [], ◌∷◌, length, refl, arith}
use Rattle.mr_maildir.proofs.Names.{AllPass-from_list_all, IsPathPart, and_from, encode_lower, false≢true, is_path_byte, lacks_colon}
use Rattle.hex.specs.Hex.{encode_with}
use Rattle.mr_maildir.proofs.Names.{length-encode_with, list_all, lower_digits, passes-below, passes_below, slice_index, ◌==◌}

-- what each of the sixteen digits passes, each digit of bytes does
pub each_digit : (p : ℕ → Bool) → passes_below 16 (λ d. p (slice_index lower_digits d)) ≡ true → (bytes : List ℕ) → ((i : ℕ) → slice_index bytes i < 256) → list_all p (encode_lower bytes) ≡ true
unfolding encode_with
each_digit p table [] fits = refl
each_digit p table (b ∷ rest) fits =
    let low : b < 256 = fits 0 in
    let high_in : b / 16 < 16 = omega arith in
    let low_in : b % 16 < 16 = omega arith in
    and_from (p (slice_index lower_digits (b / 16))) (p (slice_index lower_digits (b % 16)) && list_all p (encode_with lower_digits rest))
    (passes-below 16 (λ d. p (slice_index lower_digits d)) table (b / 16) high_in)
    (and_from (p (slice_index lower_digits (b % 16))) (list_all p (encode_with lower_digits rest))
    (passes-below 16 (λ d. p (slice_index lower_digits d)) table (b % 16) low_in)
    (each_digit p table rest (λ i. fits (suc i))))

pub digits_lack_colon : (bytes : List ℕ) → ((i : ℕ) → slice_index bytes i < 256) → lacks_colon (encode_lower bytes) ≡ true
digits_lack_colon bytes fits = each_digit (λ b. not (b == 58)) refl bytes fits

pub digits_are_part : (bytes : List ℕ) → ((i : ℕ) → slice_index bytes i < 256) → length bytes ≡ 32 → IsPathPart (encode_lower bytes)
digits_are_part bytes fits long =
    let many = length-encode_with lower_digits bytes in
    let some : 0 < length (encode_lower bytes) = omega arith in
    let no_dot = AllPass-from_list_all (λ b. not (b == 46)) (encode_lower bytes) (each_digit (λ b. not (b == 46)) refl bytes fits) in
    record {
      something = some;
      bytes = AllPass-from_list_all is_path_byte (encode_lower bytes) (each_digit is_path_byte refl bytes fits);
      shown = λ is. let wrong : not (46 == 46) ≡ true = rw is at (no_dot 0 0 some) in absurd (false≢true wrong);
    }
