-- how days are counted and written
use Rattle.std.specs.Prelude.{◌≡◌, ℕ, ◌+◌, ◌/◌, ◌%◌, ◌<◌, List, [], ◌∷◌, ◌++◌, pos}
use Rattle.jiff_core.specs.declared.civil.date.Date.{Date}
use Rattle.jiff.specs.Words.{epoch_day, IsYmd}

-- the calendar has this date, and it is that many days after 1970-01-01
pub record IsDayOf (year month day_of_month day : ℕ) : Type 0 where
  pub date : Date
  pub parts : IsYmd (pos year) (pos month) (pos day_of_month) date
  pub counted : epoch_day date ≡ pos day
  pub in_range : day < 65536

-- two digits of a number below 100
abbrev pub two_digits : ℕ → List ℕ
two_digits n = (48 + n / 10) ∷ (48 + n % 10) ∷ []

-- YYYY-MM-DD
abbrev pub date_digits : ℕ → ℕ → ℕ → List ℕ
date_digits year month day_of_month =
    two_digits (year / 100) ++ two_digits (year % 100) ++ 45 ∷ two_digits month ++ 45 ∷ two_digits day_of_month

-- the text is the day, as YYYY-MM-DD of a date that the calendar has
pub record Spells (text : List ℕ) (day : ℕ) : Type 0 where
  pub year : ℕ
  pub month : ℕ
  pub day_of_month : ℕ
  pub written : text ≡ date_digits year month day_of_month
  pub is_day : IsDayOf year month day_of_month day
