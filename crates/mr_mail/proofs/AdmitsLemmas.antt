-- the first fault, where the earlier ones do not hold
use Rattle.std.proofs.Common.{◌≡◌, ℕ, ◌<◌, ◌≤◌, true, false, nat_lt, List, length, Some, None, refl, arith}
use Rattle.std.specs.List.{list_all}
use Rattle.mr_mail.specs.Admits.{first_fault}
use Rattle.mr_mail.specs.Label.{is_label, different_labels}
use Rattle.mr_mail.specs.declared.fault.MessageFault.TheVariants.{BadLabel, TooManyLabels, BadFlags}

-- what is within a limit is not over it
not_over : (limit n : ℕ) → n ≤ limit → nat_lt limit n ≡ false
not_over limit n within = grind arith

over : (limit n : ℕ) → limit < n → nat_lt limit n ≡ true
over limit n past = grind arith

pub first_fault_label : (from subject body : List ℕ) (labels : List (List ℕ)) (flags : ℕ) → length from ≤ 254 → length subject ≤ 998 → length body ≤ 65536 → list_all is_label labels ≡ false → first_fault from subject body labels flags ≡ Some BadLabel
first_fault_label from subject body labels flags a b c bad =
    rw (not_over 254 (length from) a, not_over 998 (length subject) b, not_over 65536 (length body) c, bad) refl

pub first_fault_labels : (from subject body : List ℕ) (labels : List (List ℕ)) (flags : ℕ) → length from ≤ 254 → length subject ≤ 998 → length body ≤ 65536 → list_all is_label labels ≡ true → 16 < different_labels labels → first_fault from subject body labels flags ≡ Some TooManyLabels
first_fault_labels from subject body labels flags a b c each many =
    rw (not_over 254 (length from) a, not_over 998 (length subject) b, not_over 65536 (length body) c, each, over 16 (different_labels labels) many) refl

pub first_fault_flags : (from subject body : List ℕ) (labels : List (List ℕ)) (flags : ℕ) → length from ≤ 254 → length subject ≤ 998 → length body ≤ 65536 → list_all is_label labels ≡ true → different_labels labels ≤ 16 → 31 < flags → first_fault from subject body labels flags ≡ Some BadFlags
first_fault_flags from subject body labels flags a b c each few past =
    rw (not_over 254 (length from) a, not_over 998 (length subject) b, not_over 65536 (length body) c, each, not_over 16 (different_labels labels) few, over 31 flags past) refl

pub first_fault_none : (from subject body : List ℕ) (labels : List (List ℕ)) (flags : ℕ) → length from ≤ 254 → length subject ≤ 998 → length body ≤ 65536 → list_all is_label labels ≡ true → different_labels labels ≤ 16 → flags ≤ 31 → first_fault from subject body labels flags ≡ None
first_fault_none from subject body labels flags a b c each few within =
    rw (not_over 254 (length from) a, not_over 998 (length subject) b, not_over 65536 (length body) c, each, not_over 16 (different_labels labels) few, not_over 31 flags within) refl
