-- folders' names and labels
use Rattle.std.proofs.Common.{◌≡◌, ℕ, ◌<◌, ◌≤◌, Bool, true, false, not, cond, ◌&&◌, ◌||◌, List, [], ◌∷◌, ◌++◌, length, Option, Some, None, refl, sym, ap, ◌∙◌, inl, inr, lit<, arith}
use Rattle.mr_maildir.proofs.Names.{AllPass-from_list_all, IsPathPart, and_from, and_parts, cases_lt, codes, digest_label, encode_lower, eqb-true, false≢true}
use Rattle.mr_maildir.proofs.Names.{folder_name, get_or-take, get_or_past, is_kept_name, is_label, is_label_byte, is_name_for, is_part_name, is_path_byte}
use Rattle.mr_maildir.proofs.Names.{is_plain, is_safe_folder, label_of, le-leb, leb-true, length-encode_with, length-take-le, list_all, lower_digits, nat_le}
use Rattle.mr_maildir.proofs.Names.{or_cases, passes-below, slice_index, take, text_eq, ◌==◌}
use Rattle.mr_maildir.proofs.PathLemmas.{each_digit}
use Rattle.mr_maildir.proofs.ViewLemmas.{same_text}

-- `f-` and 30 digits are a label
thirty : (bytes : List ℕ) → ((i : ℕ) → slice_index bytes i < 256) → length bytes ≡ 15 → is_label (codes "f-" ++ encode_lower bytes) ≡ true
thirty bytes fits long =
    let many = length-encode_with lower_digits bytes in
    let size : length (codes "f-" ++ encode_lower bytes) ≡ 32 = omega arith in
    let some : 1 ≤ length (codes "f-" ++ encode_lower bytes) = omega arith in
    let few : length (codes "f-" ++ encode_lower bytes) ≤ 32 = omega arith in
    and_from (nat_le 1 (length (codes "f-" ++ encode_lower bytes)) && nat_le (length (codes "f-" ++ encode_lower bytes)) 32) (list_all is_label_byte (codes "f-" ++ encode_lower bytes))
    (and_from (nat_le 1 (length (codes "f-" ++ encode_lower bytes))) (nat_le (length (codes "f-" ++ encode_lower bytes)) 32) (le-leb 1 _ some) (le-leb _ 32 few))
    (each_digit is_label_byte refl bytes fits)

pub digits_are_label : (digest : List ℕ) → ((i : ℕ) → slice_index digest i < 256) → length digest ≡ 32 → is_label (codes "f-" ++ encode_lower (take 15 digest)) ≡ true
digits_are_label digest fits long =
    let enough : 15 ≤ length digest = omega arith in
    let front : length (take 15 digest) ≡ 15 = length-take-le 15 digest enough in
    thirty (take 15 digest) (λ i.
    elim (cases_lt i 15) [
      | inl less ↦ rw (get_or-take 15 digest i 0 less) (fits i)
      | inr more ↦ let past : length (take 15 digest) ≤ i = omega arith in rw (get_or_past (take 15 digest) i 0 past) (lit< tt)
    ]) front

not_so : (b : Bool) → not b ≡ true → b ≡ false
not_so true h = absurd (false≢true h)
not_so false h = refl

-- text that is not empty, of bytes that a path may have, without a dot in front
pub part : (text : List ℕ) → 1 ≤ length text → list_all is_path_byte text ≡ true → (slice_index text 0 == 46) ≡ false → IsPathPart text
part text some each no_dot = record {
  something = omega arith;
  bytes = AllPass-from_list_all is_path_byte text each;
  shown = λ is. let wrong : (46 == 46) ≡ false = rw is at no_dot in absurd (false≢true (sym wrong));
}

-- a name that is safe
pub safe_is_part : (text : List ℕ) → is_safe_folder text ≡ true → IsPathPart text
safe_is_part text safe =
    let four = (and_parts (nat_le 1 (length text) && nat_le (length text) 200 && not (slice_index text 0 == 46) && list_all is_path_byte text) (not (text_eq text (codes "mailfold"))) safe).0 in
    let three = and_parts (nat_le 1 (length text) && nat_le (length text) 200 && not (slice_index text 0 == 46)) (list_all is_path_byte text) four in
    let two = and_parts (nat_le 1 (length text) && nat_le (length text) 200) (not (slice_index text 0 == 46)) three.0 in
    part text (leb-true 1 (length text) (and_parts (nat_le 1 (length text)) (nat_le (length text) 200) two.0).0) three.1 (not_so (slice_index text 0 == 46) two.1)

pub safe_not_own : (text : List ℕ) → is_safe_folder text ≡ true → text_eq text (codes "mailfold") ≡ false
safe_not_own text safe =
    not_so (text_eq text (codes "mailfold")) (and_parts (nat_le 1 (length text) && nat_le (length text) 200 && not (slice_index text 0 == 46) && list_all is_path_byte text) (not (text_eq text (codes "mailfold"))) safe).1

-- what each byte passes implies of a text
pub implied : (p q : ℕ → Bool) → ((b : ℕ) → p b ≡ true → q b ≡ true) → (text : List ℕ) → list_all p text ≡ true → list_all q text ≡ true
implied p q each [] all = refl
implied p q each (b ∷ text) all =
    let parts = and_parts (p b) (list_all p text) all in
    and_from (q b) (list_all q text) (each b parts.0) (implied p q each text parts.1)

-- a label is a part of a path
pub label_byte_in_path : (b : ℕ) → is_label_byte b ≡ true → is_path_byte b ≡ true
label_byte_in_path b is =
    both (is_label_byte b) (is_path_byte b) (passes-below 123 (λ n. not (is_label_byte n) || is_path_byte n) refl b (low b is)) is
  where
    both : (x y : Bool) → (not x || y) ≡ true → x ≡ true → y ≡ true
    both true y h e = h
    both false y h e = absurd (false≢true e)

    low : (b : ℕ) → is_label_byte b ≡ true → b < 123
    low b is =
        elim (or_cases (nat_le 97 b && nat_le b 122 || nat_le 48 b && nat_le b 57) (b == 45) is) [
          | inl front ↦ elim (or_cases (nat_le 97 b && nat_le b 122) (nat_le 48 b && nat_le b 57) front) [
            | inl lower ↦ let high : b ≤ 122 = leb-true b 122 (and_parts (nat_le 97 b) (nat_le b 122) lower).1 in omega arith
            | inr digit ↦ let high : b ≤ 57 = leb-true b 57 (and_parts (nat_le 48 b) (nat_le b 57) digit).1 in omega arith
          ]
          | inr dash ↦ let same : b ≡ 45 = eqb-true b 45 dash in omega arith
        ]

-- no label of a folder is the name of the program's own
pub label_of-not_own : (name : List ℕ) → text_eq (label_of name) (codes "mailfold") ≡ false
label_of-not_own name =
    elim (is_plain name) as (λ t. is_plain name ≡ t → text_eq (cond t name (digest_label name)) (codes "mailfold") ≡ false) [
      | true ↦ λ is. neither (text_eq name (codes "inbox")) (text_eq name (codes "mailfold")) (is_part_name name) (and_parts (is_label name) (not (is_kept_name name)) is).1
      | false ↦ λ _. refl
    ] refl
  where
    neither : (a b c : Bool) → not (a || b || c) ≡ true → b ≡ false
    neither true b c h = absurd (false≢true h)
    neither false true c h = absurd (false≢true h)
    neither false false c h = refl

-- nor that of one of a folder's parts
pub label_of-not_part : (name : List ℕ) → is_part_name (label_of name) ≡ false
label_of-not_part name =
    elim (is_plain name) as (λ t. is_plain name ≡ t → is_part_name (cond t name (digest_label name)) ≡ false) [
      | true ↦ λ is. third (text_eq name (codes "inbox")) (text_eq name (codes "mailfold")) (is_part_name name) (and_parts (is_label name) (not (is_kept_name name)) is).1
      | false ↦ λ _. refl
    ] refl
  where
    third : (a b c : Bool) → not (a || b || c) ≡ true → c ≡ false
    third true b c h = absurd (false≢true h)
    third false true c h = absurd (false≢true h)
    third false false c h = not_so c h

-- the folder that a label's mail is put into has that label
pub label_of-label : (label : List ℕ) → is_label label ≡ true → is_kept_name label ≡ false → label_of label ≡ label
label_of-label label is free =
    ap (λ t. cond t label (digest_label label)) (and_from (is_label label) (not (is_kept_name label)) is (ap not free))

-- whatever was told of it
back_untold : (label : List ℕ) → is_label label ≡ true → is_kept_name label ≡ false → label_of (label_of label) ≡ label
back_untold label is free = ap label_of (label_of-label label is free) ∙ label_of-label label is free

pub folder_name-back : (label : List ℕ) (told : Option (List ℕ)) → is_label label ≡ true → is_kept_name label ≡ false → label_of (folder_name label told) ≡ label
folder_name-back label None is free = back_untold label is free
folder_name-back label (Some told) is free =
    elim (is_name_for label told) as (λ t. is_name_for label told ≡ t → label_of (cond t told (label_of label)) ≡ label) [
      | true ↦ λ named. same_text (label_of told) label (and_parts (is_safe_folder told) (text_eq (label_of told) label) named).1
      | false ↦ λ _. back_untold label is free
    ] refl
