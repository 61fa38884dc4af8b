-- worked rows: what the definitions give for small values
use Rattle.std.proofs.Common.{arith}
use Rattle.std.specs.Prelude.{◌≡◌, true, false, [], ◌∷◌, codes, refl}
use Rattle.std.specs.declared.cmp.Ordering.TheVariants.{Less, Equal, Greater}
use Rattle.std.specs.Fmt.{digits}
use Rattle.mr_version.specs.Name.{Name, name_cmp, name_eq, name_text}
use Rattle.mr_version.specs.inner.Number.{IsPlain}
use Rattle.mr_version.specs.Sets.{is_before, is_listed, nothing}

-- version 12 of author 3
abbrev twelfth : Name
twelfth = record { author = 3; counter = 12 }

-- version 2 of author 3
abbrev second : Name
second = record { author = 3; counter = 2 }

-- version 1 of author 10
abbrev of_ten : Name
of_ten = record { author = 10; counter = 1 }

-- a version is written as its author, a full stop and its counter, with no zeros in front
pub text : name_text twelfth ≡ codes "3.12"
unfolding digits
text = refl

-- an author of 0 is written as one digit
pub text_of_zero : name_text (record { author = 0; counter = 1000000 }) ≡ codes "0.1000000"
unfolding digits
text_of_zero = refl

-- the lower author stands first, whatever the counters are
pub author_decides : name_cmp twelfth of_ten ≡ Less
author_decides = refl

-- counters of one author are compared as numbers, and not as texts
pub counter_decides : name_cmp twelfth second ≡ Greater
counter_decides = refl

-- a version is equal to itself
pub same : name_cmp second second ≡ Equal
same = refl

-- a version does not stand before itself
pub not_before_itself : is_before second second ≡ false
not_before_itself = refl

-- author 3 stands before author 10, and not the other way round
pub before : is_before twelfth of_ten ≡ true
before = refl

pub not_before : is_before of_ten twelfth ≡ false
not_before = refl

-- one author's versions with other counters are not one
pub other_counter : name_eq twelfth second ≡ false
other_counter = refl

-- a list has what stands at its end
pub listed_last : is_listed (twelfth ∷ second ∷ []) second ≡ true
listed_last = refl

-- a list with another version of the author has not this one
pub unlisted : is_listed (twelfth ∷ of_ten ∷ []) second ≡ false
unlisted = refl

-- the empty set has no version
pub none_in_nothing : nothing second ≡ false
none_in_nothing = refl

-- the digit zero alone is plain, and so is a number that ends with one
pub zero_is_plain : IsPlain (codes "0")
zero_is_plain = record { no_sign = λ sign. let wrong : 48 ≡ 43 = sign in absurd (omega arith); no_zeros = λ _. omega arith }

pub ten_is_plain : IsPlain (codes "10")
ten_is_plain = record { no_sign = λ sign. let wrong : 49 ≡ 43 = sign in absurd (omega arith); no_zeros = λ zero. let wrong : 49 ≡ 48 = zero in absurd (omega arith) }

-- a number with a zero in front is not plain
pub zero_in_front : ¬ IsPlain (codes "07")
zero_in_front plain = let short = plain.no_zeros refl in absurd (omega arith)

-- nor is one with a plus sign
pub plus_in_front : ¬ IsPlain (codes "+7")
plus_in_front plain = plain.no_sign refl
