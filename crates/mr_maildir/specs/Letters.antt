-- letters behind a file's name, and flags
use Rattle.std.specs.Prelude.{ℕ, Bool, not, ◌==◌, ◌&&◌, nat_le, if◌then◌else◌, List, Option, Some, None, is_some, fold, filter}
use Rattle.std.specs.List.{list_any, range_with_len}
use Rattle.std.specs.Int.RustNames.{bit_or}
use Rattle.mr_mail.specs.Flag.{bit_of, has_flag, all_flags}
use Rattle.mr_mail.specs.declared.flags.Flag.{Flag}
use Rattle.mr_mail.specs.declared.flags.Flag.TheVariants.{Seen, Answered, Flagged, Draft, Deleted}

-- the letter that tells a flag
abbrev pub letter_of : Flag → ℕ
letter_of Draft = 68
letter_of Flagged = 70
letter_of Answered = 82
letter_of Seen = 83
letter_of Deleted = 84

-- whether the letters have this one
abbrev pub has_letter : List ℕ → ℕ → Bool
has_letter letters letter = list_any (λ b. b == letter) letters

-- a flag byte, with one more flag if it is wanted
abbrev pub with_flag_if : ℕ → Flag → Bool → ℕ
with_flag_if bits flag wanted = if wanted then bit_or bits (bit_of flag) else bits

-- the flag byte of the flags that pass
abbrev pub flags_where : (Flag → Bool) → ℕ
flags_where test = fold (λ bits flag. with_flag_if bits flag (test flag)) 0 all_flags

-- the flags that letters tell
abbrev pub flags_told : List ℕ → ℕ
flags_told letters = flags_where (λ flag. has_letter letters (letter_of flag))

-- a graphic character of ASCII, but neither `/` nor `:`
abbrev pub is_info_byte : ℕ → Bool
is_info_byte b = nat_le 33 b && nat_le b 126 && not (b == 47) && not (b == 58)

-- the flag that a letter tells
abbrev pub flag_told : ℕ → Option Flag
flag_told b = if b == 68 then Some Draft else (if b == 70 then Some Flagged else (if b == 82 then Some Answered else (if b == 83 then Some Seen else (if b == 84 then Some Deleted else None))))

abbrev pub tells_flag : ℕ → Bool
tells_flag b = is_some (flag_told b)

-- whether a letter is there: one that tells a flag where the flag is, another where it was
abbrev pub is_there : List ℕ → ℕ → ℕ → Option Flag → Bool
is_there letters flags b None = has_letter letters b
is_there letters flags b (Some flag) = has_flag flags flag

-- whether a letter stands on the file once its flags are these
abbrev pub stays_on : List ℕ → ℕ → ℕ → Bool
stays_on letters flags b = is_info_byte b && is_there letters flags b (flag_told b)

-- the letters of a file whose flags change to these, in rising order of ASCII's graphic characters
unfoldable pub letters_with : List ℕ → ℕ → List ℕ
letters_with letters flags = filter (stays_on letters flags) (range_with_len 33 94)
