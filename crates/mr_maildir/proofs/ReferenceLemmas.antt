-- how a mail's reference is read
use Rattle.std.proofs.Common.{◌≡◌, ℕ, ◌<◌, ◌^◌, true, not, List, [], ◌∷◌, ◌++◌, Option, Some, None, IfSome, IfNone, Bor, refl, sym, ap, ◌∙◌, arith}
use Rattle.mr_maildir.proofs.Names.{IsDigest, MatchOption, ReferenceParts, and_parts, behind_key, bytes_decides, decimal, encode_lower, false≢true}
use Rattle.mr_maildir.proofs.Names.{is_one_line, option_copied, text_eq, ◌==◌}
use Rattle.std.specs.Str.Parse.{AllDigits, digits_value}
use Rattle.std.proofs.lemmas.Fmt.{digits_decimal}
use Rattle.std.proofs.lemmas.Str.Parse.{IsNumeralModel, numerals_by_value, tells_digits, not_in_digits}
use Rattle.mr_maildir.proofs.ByteLemmas.{lacks-from, first_byte}
use Rattle.mr_maildir.proofs.PathLemmas.{each_digit}
use Rattle.mr_maildir.proofs.ToldLemmas.{behind-key}

-- a text that begins with the key has just the rest behind it
pub value_behind : (key text rest : List ℕ) (r : Option (Bor (List ℕ))) → option_copied r ≡ behind_key key text → text ≡ key ++ rest → MatchOption r ⊥ (λ x. x.now ≡ rest)
value_behind key text rest r told is = go r (told ∙ (ap (behind_key key) is ∙ behind-key key rest))
  where
    go : (r : Option (Bor (List ℕ))) → option_copied r ≡ Some rest → MatchOption r ⊥ (λ x. x.now ≡ rest)
    go None e = cc
    go (Some x) e = cc

-- a text with a newline is not one line
not_one_line : (value rest : List ℕ) → is_one_line (value ++ 10 ∷ rest) ≡ true → ⊥
not_one_line [] rest one = false≢true one
not_one_line (b ∷ value) rest one = not_one_line value rest (and_parts (not (b == 10)) (is_one_line (value ++ 10 ∷ rest)) one).1

-- the first line ends at the first newline
pub line_cut : (text value rest : List ℕ) (r : Option (Bor (List ℕ) × Bor (List ℕ))) → IfSome r (λ p. (text ≡ p.0.now ++ 10 ∷ p.1.now) × (is_one_line p.0.now ≡ true)) → IfNone r (is_one_line text ≡ true) → is_one_line value ≡ true → text ≡ value ++ 10 ∷ rest → MatchOption r ⊥ (λ x. (x.0.now ≡ value) × (x.1.now ≡ rest))
line_cut text value rest None cut none one is = not_one_line value rest (ap is_one_line (sym is) ∙ none)
line_cut text value rest (Some x) cut none one is = first_byte 10 x.0.now x.1.now value rest cut.1 one (sym cut.0 ∙ is)

-- what was cut behind a key stood there
pub line_written : (text key value : List ℕ) (r : Option (Bor (List ℕ) × Bor (List ℕ))) → text ≡ key ++ value → IfSome r (λ p. (value ≡ p.0.now ++ 10 ∷ p.1.now) × (is_one_line p.0.now ≡ true)) → IfSome r (λ p. text ≡ key ++ (p.0.now ++ 10 ∷ p.1.now))
line_written text key value None is cut = tt
line_written text key value (Some x) is cut = is ∙ ap (λ l. key ++ l) cut.0

-- digits are one line
pub digest-one_line : (digest : List ℕ) → IsDigest digest → is_one_line (encode_lower digest) ≡ true
digest-one_line digest is = each_digit (λ b. not (b == 10)) refl digest is.bytes

numerals : IsNumeralModel (AllDigits 10) (digits_value 10)
numerals = numerals_by_value (AllDigits 10) tells_digits

pub size-one_line : (size : ℕ) → size < 2 ^ 64 → is_one_line (decimal size) ≡ true
size-one_line size small = lacks-from 10 (decimal size) (not_in_digits numerals (decimal size) 10 (digits_decimal numerals size small) (λ digit. omega arith))

-- the digits of a digest are those of it
pub same_digits : (digest digits : List ℕ) → digits ≡ encode_lower digest → text_eq (encode_lower digest) digits ≡ true
same_digits digest digits is = (bytes_decides (encode_lower digest) digits).1 (sym is)

-- the same parts are the same reference
pub same_parts : (digest : List ℕ) (size : ℕ) (lines : List ℕ) (parts : ReferenceParts) → digest ≡ parts.digest → size ≡ parts.size → lines ≡ parts.lines → ◌≡◌ {A = ReferenceParts} (record { digest = digest; size = size; lines = lines }) parts
same_parts digest size lines parts digests sizes rest = λ i. record { digest = digests i; size = sizes i; lines = rest i }
