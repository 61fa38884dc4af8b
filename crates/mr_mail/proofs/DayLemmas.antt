-- days, their dates and their texts
use Rattle.std.proofs.Common.{◌≡◌, ℕ, ◌<◌, List, Result, Ok, Err, None, IsOk, refl, sym, ◌∙◌, arith, ℤ, pos, negsuc, unsigned_abs, ◌≤ℤ◌}
use Rattle.std.proofs.lemmas.Int.{by_lt_z}
use Rattle.jiff_core.specs.declared.civil.date.Date.{Date}
use Rattle.jiff_core.specs.Calendar.{days_from_civil}
use Rattle.std.specs.Result.{result_ok, OkIff}
use Rattle.jiff.specs.Words.{epoch_day, IsYmd, IsDate}
use Rattle.jiff_core.proofs.SignedLemmas.{signed_arith}
use Rattle.jiff_core.proofs.CalendarLemmas.{days_in_month_bounds, days_from_civil-day_count, day_count-epoch, day_count-lt_year}
use Rattle.jiff_core.proofs.DateLemmas.{civil, epoch_day_injective, epoch_day_same}
use Rattle.mr_mail.specs.Day.{IsDayOf, Spells}

-- the first day
pub days_from_civil-1970 : days_from_civil (pos 1970) 1 1 ≡ pos 0
days_from_civil-1970 = omega (arith, signed_arith, days_from_civil-day_count (pos 1970) 1 1, day_count-epoch)

pub epoch_day-1970 : (date : Date) → IsYmd (pos 1970) (pos 1) (pos 1) date → epoch_day date ≡ pos 0
epoch_day-1970 date h =
    let month : date.month ≡ 1 = omega (arith, signed_arith, h.1) in
    let day : date.day ≡ 1 = omega (arith, signed_arith, h.2) in
    rw (h.0, month, day) days_from_civil-1970

-- a date that is counted from 1970-01-01 lies in no earlier year
pub year_from_1970 : (date : Date) (days : ℕ) → epoch_day date ≡ pos days → pos 1970 ≤ℤ date.year
year_from_1970 date days counted =
    by_lt_z date.year (pos 1970)
    (λ before. absurd (omega (arith, signed_arith, counted, days_from_civil-day_count date.year date.month date.day, day_count-epoch, day_count-lt_year date.year date.month date.day (pos 1970) 1 1 (civil date) (omega arith) before)))
    (λ after. omega (arith, signed_arith))

-- the parts of a date have four, two and two digits
pub IsDayOf_bounds : (year month day_of_month day : ℕ) → IsDayOf year month day_of_month day → (year < 10000) × (month < 100) × (day_of_month < 100)
IsDayOf_bounds year month day_of_month day h =
    let date = civil h.date in
    (omega (arith, signed_arith, h.parts.0, date.0), omega (arith, signed_arith, h.parts.1, date.1), omega (arith, signed_arith, h.parts.2, date.2, days_in_month_bounds h.date.year h.date.month))

-- a number that is not negative is its own magnitude
pub pos-unsigned_abs : (z : ℤ) → pos 0 ≤ℤ z → z ≡ pos (unsigned_abs z)
pos-unsigned_abs (pos n) low = refl
pos-unsigned_abs (negsuc n) low = absurd (omega (arith, signed_arith, low))

-- a day is of the date's own parts
pub IsDayOf_date : (date : Date) (days : ℕ) → epoch_day date ≡ pos days → days < 65536 → IsDayOf (unsigned_abs date.year) date.month date.day days
IsDayOf_date date days counted within =
    let late = year_from_1970 date days counted in
    record {
      date = date;
      parts = (pos-unsigned_abs date.year (omega (arith, signed_arith, late)), refl, refl);
      counted = counted;
      in_range = within;
    }

-- a date counts one number of days
pub IsDayOf_day : (year month day_of_month a b : ℕ) → IsDayOf year month day_of_month a → IsDayOf year month day_of_month b → a ≡ b
IsDayOf_day year month day_of_month a b x y =
    let month_same : x.date.month ≡ y.date.month = omega (arith, signed_arith, x.parts.1, y.parts.1) in
    let day_same : x.date.day ≡ y.date.day = omega (arith, signed_arith, x.parts.2, y.parts.2) in
    let same = epoch_day_same x.date y.date (x.parts.0 ∙ sym y.parts.0) month_same day_same in
    omega (arith, signed_arith, same, x.counted, y.counted)

-- a day has one spelling
pub Spells_text : (s t : List ℕ) (day : ℕ) → Spells s day → Spells t day → s ≡ t
Spells_text s t day x y =
    let same = epoch_day_injective x.is_day.date y.is_day.date (x.is_day.counted ∙ sym y.is_day.counted) in
    let year : x.year ≡ y.year = omega (arith, signed_arith, same.0, x.is_day.parts.0, y.is_day.parts.0) in
    let month : x.month ≡ y.month = omega (arith, signed_arith, same.1, x.is_day.parts.1, y.is_day.parts.1) in
    let day_of_month : x.day_of_month ≡ y.day_of_month = omega (arith, signed_arith, same.2, x.is_day.parts.2, y.is_day.parts.2) in
    x.written ∙ rw (year, month, day_of_month) (sym y.written)

-- the calendar has the date of a day
pub IsDate-IsDayOf : (year month day_of_month day : ℕ) → IsDayOf year month day_of_month day → IsDate (pos year) (pos month) (pos day_of_month)
IsDate-IsDayOf year month day_of_month day h =
    let date = civil h.date in
    let same_month : h.date.month ≡ month = omega (arith, signed_arith, h.parts.1) in
    let same_day : h.date.day ≡ day_of_month = omega (arith, signed_arith, h.parts.2) in
    let in_month = rw (h.parts.0, same_month, same_day) at date in
    (in_month.0, omega (arith, signed_arith, in_month.1), omega (arith, signed_arith, in_month.2))

-- a date that has the parts of a day counts it
pub epoch_day-IsDayOf : (year month day_of_month day : ℕ) (date : Date) → IsYmd (pos year) (pos month) (pos day_of_month) date → IsDayOf year month day_of_month day → epoch_day date ≡ pos day
epoch_day-IsDayOf year month day_of_month day date parts h =
    let same_month : date.month ≡ h.date.month = omega (arith, signed_arith, parts.1, h.parts.1) in
    let same_day : date.day ≡ h.date.day = omega (arith, signed_arith, parts.2, h.parts.2) in
    epoch_day_same date h.date (parts.0 ∙ sym h.parts.0) same_month same_day ∙ h.counted

-- a result that gives nothing is no success
pub not_ok : {T E : Type 0} (r : Result T E) → result_ok r ≡ None → IsOk r → ⊥
not_ok (Ok x) none ok = cc
not_ok (Err e) none ok = cc

pub not_ok_iff : {T E : Type 0} (r : Result T E) (P : Type 0) (x : T) → OkIff r P x → result_ok r ≡ None → P → ⊥
not_ok_iff (Ok y) P x told none holds = cc
not_ok_iff (Err e) P x told none holds = told holds
