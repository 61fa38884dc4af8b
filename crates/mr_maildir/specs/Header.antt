-- the fields of a mail's header
use Rattle.std.specs.Prelude.{◌≡◌, ◌≤◌, ◌<◌, ℕ, ℤ, pos, negsuc, Bool, true, not, ◌==◌, ◌-◌, ◌||◌, nat_lt, if◌then◌else◌, List, [], ◌∷◌, length, take, drop, take_while, slice_index, Option, Some, None, Ok, Err}
use Rattle.std.specs.List.{slice_split, flat_map, position_or_len}
use Rattle.std.specs.Str.{trim, IsCharBoundary, str_eq_ignore_ascii_case}
use Rattle.std.specs.Str.Lossy.{utf8_lossy}
use Rattle.jiff_core.specs.Calendar.{days_from_civil}
use Rattle.jiff_fmt.specs.Reader.{Read}
use Rattle.jiff_fmt.specs.Rfc2822.{datetime_offset}
use Rattle.jiff_fmt.specs.Temporal.{DateParts, TimeParts}

-- a line without the return at its end
abbrev pub is_returned : List ℕ → Bool
is_returned line = slice_index line (length line - 1) == 13

abbrev pub without_return : List ℕ → List ℕ
without_return line = if is_returned line then take (length line - 1) line else line

-- a header ends before the first empty line
abbrev pub is_end : List ℕ → Bool
is_end line = length (without_return line) == 0

-- its lines: what stands between newlines
abbrev pub header_lines : List ℕ → List (List ℕ)
header_lines mail = take_while (λ line. not (is_end line)) (slice_split (λ b. b == 10) mail)

-- whether a line begins with this key, a name and a colon, in capitals or not
abbrev pub begins : List ℕ → List ℕ → Bool
begins key line = str_eq_ignore_ascii_case key (take (length key) line)

-- whether a line goes on with the field before it: it begins with a space or a tab
abbrev pub is_folded : List ℕ → Bool
is_folded line = (slice_index line 0 == 32) || (slice_index line 0 == 9)

-- what begins with the first that passes
abbrev pub from_first : {X : Type 0} → (X → Bool) → List X → List X
from_first p xs = drop (position_or_len p xs) xs

-- the first, with those behind it that pass
abbrev pub first_group : {X : Type 0} → (X → Bool) → List X → List X
first_group p [] = []
first_group p (x ∷ xs) = x ∷ take_while p xs

-- what stands behind the key, of all lines of the first field that has it, or nothing
abbrev pub value_in : List ℕ → List (List ℕ) → List ℕ
value_in key lines = drop (length key) (flat_map without_return (first_group is_folded (from_first (begins key) lines)))

abbrev pub field_value : List ℕ → List ℕ → List ℕ
field_value key mail = value_in key (header_lines mail)

-- the text of some bytes, with U+FFFD for what is no UTF-8, and without white space at its ends
abbrev pub text_shown : List ℕ → List ℕ
text_shown bytes = trim (utf8_lossy bytes)

abbrev pub field_text : List ℕ → List ℕ → List ℕ
field_text key mail = text_shown (field_value key mail)

-- the longest beginning of a text that is whole characters and at most so many bytes
pub record IsCut (most : ℕ) (text part : List ℕ) : Type 0 where
  pub size : ℕ
  pub is_front : part ≡ take size text
  pub within : size ≤ most
  pub whole : IsCharBoundary text size
  pub longest : (i : ℕ) → size < i → i ≤ most → ¬ (IsCharBoundary text i)

-- the day with this number, from 1970-01-01 on
abbrev pub day_numbered : ℤ → Option ℕ
day_numbered (pos n) = if nat_lt n 65536 then Some n else None
day_numbered (negsuc n) = None

-- the day of a date, which is all of a text
abbrev pub day_read : Read ((DateParts × TimeParts) × ℤ) → Option ℕ
day_read (Err e) = None
day_read (Ok p) = if length p.1 == 0 then day_numbered (days_from_civil p.0.0.0.year p.0.0.0.month p.0.0.0.day) else None

-- the day of a date as mail has it, whatever weekday it says
abbrev pub day_of_date : List ℕ → Option ℕ
day_of_date text = day_read (datetime_offset true text)
