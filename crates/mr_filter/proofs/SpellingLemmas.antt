-- the bytes of what is spelled: no separator stands in a condition, nor ` | ` in a clause
use Rattle.std.proofs.Common.{◌≡◌, ℕ, ◌<◌, ◌&&◌, not, Bool, true, eqb, List, [], ◌∷◌, ◌++◌, refl, ◌∙◌, ap, arith}
use Rattle.mr_filter.proofs.Names.{Condition, Flag, IsValueOf, Spells, SpellsCondition, both_true, eqb-true, flag_name, is_label_byte, kind_of, leb-true}
use Rattle.mr_filter.proofs.Names.{list_all, list_all-append, ne_eqb, two_digits}
use Rattle.mr_filter.proofs.MeaningLemmas.{or_cases}

-- neither mark
abbrev pub is_plain : ℕ → Bool
is_plain b = not (eqb b 38) && not (eqb b 124)

is_plain-from : (b : ℕ) → (b ≡ 38 → ⊥) → (b ≡ 124 → ⊥) → is_plain b ≡ true
is_plain-from b first second = both_true (ap not (ne_eqb b 38 first)) (ap not (ne_eqb b 124 second))

-- a byte of a label lies in a range without the marks
label_byte-plain : (b : ℕ) → is_label_byte b ≡ true → is_plain b ≡ true
label_byte-plain b is = grind (arith, or_cases, eqb, eqb-true, is_plain-from, leb-true)

labels_bytes-plain : (bytes : List ℕ) → list_all is_label_byte bytes ≡ true → list_all is_plain bytes ≡ true
labels_bytes-plain [] each = refl
labels_bytes-plain (b ∷ bytes) each = grind (arith, labels_bytes-plain bytes, label_byte-plain)

flag_name-plain : (flag : Flag) → list_all is_plain (flag_name flag) ≡ true
flag_name-plain flag = grind arith

-- digits lie in a range without the marks
two_digits-plain : (n : ℕ) → n < 100 → list_all is_plain (two_digits n) ≡ true
two_digits-plain n small = grind (arith, is_plain-from)

joined_plain : (xs ys : List ℕ) → list_all is_plain xs ≡ true → list_all is_plain ys ≡ true → list_all is_plain (xs ++ ys) ≡ true
joined_plain xs ys first second = list_all-append is_plain xs ys ∙ both_true first second

date-plain : (date : List ℕ) (day : ℕ) → Spells date day → list_all is_plain date ≡ true
date-plain date day s = grind (arith, joined_plain, two_digits-plain)

value-plain : (condition : Condition) (value : List ℕ) → IsValueOf condition value → list_all is_plain value ≡ true
value-plain condition value is = grind (arith, labels_bytes-plain, flag_name-plain, date-plain)

kind-plain : (condition : Condition) → list_all is_plain (kind_of condition) ≡ true
kind-plain condition = grind arith

-- a condition has neither mark
pub condition-plain : (text : List ℕ) (condition : Condition) → SpellsCondition text condition → list_all is_plain text ≡ true
condition-plain text condition s = grind (arith, joined_plain, kind-plain, value-plain)
