-- worked rows: what the definitions give for small values
use Rattle.std.proofs.Common.{arith, rules}
use Rattle.std.specs.Prelude.{◌≡◌, ℕ, true, false, List, [], ◌∷◌, ◌++◌, map, replicate, codes, Some, None, pos, refl}
use Rattle.std.specs.List.Sorted.{IsStrictlySortedBy}
use Rattle.std.specs.declared.cmp.Ordering.TheVariants.{Less, Equal, Greater}
use Rattle.jiff_core.specs.Calendar.{days_from_civil, day_count, days_of_years, days_of_months}
use Rattle.mr_mail.specs.declared.fault.MessageFault.TheVariants.{FromTooLong, SubjectTooLong, BadLabel, TooManyLabels, BadFlags}
use Rattle.mr_mail.specs.declared.flags.Flag.TheVariants.{Flagged, Deleted}
use Rattle.mr_mail.specs.Admits.{first_fault}
use Rattle.mr_mail.specs.Day.{IsDayOf, date_digits}
use Rattle.mr_mail.specs.Flag.{has_flag, has_flags, lacks_flags}
use Rattle.mr_mail.specs.Label.{is_label, text_cmp, has_label, different_labels, IsLabelSet}

-- ---- labels

-- the letters a to z, digits and hyphens make a label
pub label : is_label (codes "az-09") ≡ true
label = refl

-- a hyphen alone is one
pub hyphen : is_label (codes "-") ≡ true
hyphen = refl

-- the empty text is none
pub no_empty_label : is_label [] ≡ false
no_empty_label = refl

-- 32 bytes are the most
pub longest_label : is_label (replicate 32 97) ≡ true
longest_label = refl

pub too_long_label : is_label (replicate 33 97) ≡ false
too_long_label = refl

-- capital letters, spaces and colons are in none
pub no_capital : is_label (codes "Inbox") ≡ false
no_capital = refl

pub no_space : is_label (codes "to do") ≡ false
no_space = refl

pub no_colon : is_label (codes "a:") ≡ false
no_colon = refl

-- a label stands before each longer one that begins with it
pub shorter_first : text_cmp (codes "a") (codes "ab") ≡ Less
shorter_first = refl

-- the first byte that differs decides, and not the length
pub byte_decides : text_cmp (codes "b") (codes "ab") ≡ Greater
byte_decides = refl

-- hyphens stand before digits, and these before letters
pub hyphen_first : text_cmp (codes "-") (codes "0") ≡ Less
hyphen_first = refl

pub digits_first : text_cmp (codes "9") (codes "a") ≡ Less
digits_first = refl

-- a label that is named twice counts once
pub counted_once : different_labels (codes "a" ∷ codes "b" ∷ codes "a" ∷ []) ≡ 2
counted_once = refl

-- a part of a label is not among them
pub no_part : has_label (codes "inbox" ∷ codes "work" ∷ []) (codes "in") ≡ false
no_part = refl

-- labels that fall are no label set, nor are two that are the same
pub falling : ¬ IsLabelSet (codes "b" ∷ codes "a" ∷ [])
unfolding IsStrictlySortedBy
falling set = let wrong : Greater ≡ Less = set.rising.0.0 in cc

pub twice : ¬ IsLabelSet (codes "a" ∷ codes "a" ∷ [])
unfolding IsStrictlySortedBy
twice set = let wrong : Equal ≡ Less = set.rising.0.0 in cc

-- ---- the first fault of a message

-- a message of nothing at all has none
pub nothing_at_all : first_fault [] [] [] [] 0 ≡ None
nothing_at_all = refl

-- a sender of 254 bytes is the longest
pub longest_sender : first_fault (replicate 254 97) [] [] [] 31 ≡ None
longest_sender = refl

pub too_long_sender : first_fault (replicate 255 97) [] [] [] 31 ≡ Some FromTooLong
too_long_sender = refl

-- the sender comes before all else that is wrong
pub sender_first : first_fault (replicate 255 97) (replicate 999 97) [] ([] ∷ []) 32 ≡ Some FromTooLong
sender_first = refl

-- the subject comes before labels and flags
pub subject_before_labels : first_fault [] (replicate 999 97) [] ([] ∷ []) 32 ≡ Some SubjectTooLong
subject_before_labels = refl

-- labels a to q, which are seventeen
abbrev seventeen : List (List ℕ)
seventeen = map (λ letter. letter ∷ []) (codes "abcdefghijklmnopq")

-- a bad label comes before too many, wherever it stands
pub bad_before_many : first_fault [] [] [] (seventeen ++ codes "A" ∷ []) 32 ≡ Some BadLabel
bad_before_many = refl

-- too many labels come before a bad flag byte
pub many_before_flags : first_fault [] [] [] seventeen 32 ≡ Some TooManyLabels
many_before_flags = refl

-- seventeen labels that are all the same are not too many
pub many_alike : first_fault [] [] [] (replicate 17 (codes "a")) 31 ≡ None
many_alike = refl

-- a flag byte of 32 is the first bad one
pub bad_flags : first_fault [] [] [] [] 32 ≡ Some BadFlags
bad_flags = refl

-- ---- flags

-- 20 is flagged and deleted
pub flagged : has_flag 20 Flagged ≡ true
flagged = refl

pub not_deleted : has_flag 15 Deleted ≡ false
not_deleted = refl

-- each wanted flag has to be there, and others may be
pub has_each : has_flags 7 5 ≡ true
has_each = refl

pub has_not_each : has_flags 3 5 ≡ false
has_not_each = refl

-- no barred flag may be there, not even one of two
pub lacks_each : lacks_flags 5 10 ≡ true
lacks_each = refl

pub lacks_one_alone : lacks_flags 5 6 ≡ false
lacks_one_alone = refl

-- no flag is always there, and always lacking
pub has_none : has_flags 0 0 ≡ true
has_none = refl

pub lacks_none : lacks_flags 31 0 ≡ true
lacks_none = refl

-- ---- days

-- months and days of one digit have a zero in front
pub date_text : date_digits 2026 1 5 ≡ codes "2026-01-05"
date_text = refl

-- 1970-01-01 is day 0
pub first_day : IsDayOf 1970 1 1 0
unfolding days_from_civil day_count days_of_years days_of_months
first_day = record {
  date = record { year = pos 1970; month = 1; day = 1; year_in = search rules; month_in = search rules; day_in = search rules };
  parts = (refl, refl, refl);
  counted = refl;
  in_range = omega arith;
}

-- a leap day counts: 1972-03-01 is two years, 31 and 29 days later
pub after_leap_day : IsDayOf 1972 3 1 790
unfolding days_from_civil day_count days_of_years days_of_months
after_leap_day = record {
  date = record { year = pos 1972; month = 3; day = 1; year_in = search rules; month_in = search rules; day_in = search rules };
  parts = (refl, refl, refl);
  counted = refl;
  in_range = omega arith;
}
