-- the paths of a store stay inside
use Rattle.std.proofs.Common.{◌≡◌, ℕ, ◌≤◌, true, false, not, List, [], ◌∷◌, length, get_or, lit≤, refl, sym, ap, ◌∙◌, arith}
use Rattle.mr_folder.proofs.Names.{AllPass, AllPass-from_list_all, IsBytes, IsInside, IsPart, and_from, codes, decode_of-encode_lower, decode_of-ok}
use Rattle.mr_folder.proofs.Names.{draft_path, encode_lower, eqb-true, false≢true, is_hex_digit, is_part_byte, length-encode_with, list_all, lower_digits}
use Rattle.mr_folder.proofs.Names.{stored_path, ◌==◌}

-- three bytes or more that a part may have
part : (text : List ℕ) → 3 ≤ length text → AllPass is_part_byte text → IsPart text
part text long bytes = record {
  something = omega arith;
  bytes = bytes;
  not_here = λ e. let short : length text ≡ 1 = ap length e in omega arith;
  not_above = λ e. let short : length text ≡ 2 = ap length e in omega arith;
}

plain : (text : List ℕ) → 3 ≤ length text → list_all is_part_byte text ≡ true → IsPart text
plain text long each = part text long (AllPass-from_list_all is_part_byte text each)

pub draft_inside : IsInside draft_path
draft_inside = record {
  first = codes ".mailfold";
  more = codes "tmp" ∷ codes "draft" ∷ [];
  first_is = plain (codes ".mailfold") (lit≤ tt) refl;
  more_are = (plain (codes "tmp") (lit≤ tt) refl, (plain (codes "draft") (lit≤ tt) refl, tt));
  path_is = refl;
}

-- a hexadecimal digit is neither `/` nor NUL
digit_in_part : (b : ℕ) → is_hex_digit b ≡ true → is_part_byte b ≡ true
digit_in_part b is = and_from (not (b == 47)) (not (b == 0)) (apart 47 refl) (apart 0 refl)
  where
    apart : (c : ℕ) → is_hex_digit c ≡ false → not (b == c) ≡ true
    apart c lacking =
        elim (b == c) as (λ t. (b == c) ≡ t → not t ≡ true) [
          | true ↦ λ same. absurd (false≢true (sym lacking ∙ (ap is_hex_digit (sym (eqb-true b c same)) ∙ is)))
          | false ↦ λ _. refl
        ] refl

pub stored_inside : (digest : List ℕ) → IsBytes digest → length digest ≡ 32 → IsInside (stored_path digest)
stored_inside digest fits long =
    let many = length-encode_with lower_digits digest in
    let some : 3 ≤ length (encode_lower digest) = omega arith in
    let digits = (decode_of-ok (encode_lower digest) digest (decode_of-encode_lower digest fits)).1 in
    record {
      first = codes ".mailfold";
      more = codes "files" ∷ encode_lower digest ∷ [];
      first_is = plain (codes ".mailfold") (lit≤ tt) refl;
      more_are = (plain (codes "files") (lit≤ tt) refl, (part (encode_lower digest) some (λ i d below. digit_in_part (get_or (encode_lower digest) i d) (digits i d below)), tt));
      path_is = refl;
    }
