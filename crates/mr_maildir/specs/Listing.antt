-- a mail as a line of a list
use Rattle.std.specs.Prelude.{◌≡◌, ℕ, ◌/◌, ◌%◌, ◌==◌, if◌then◌else◌, List, [], ◌∷◌}
use Rattle.std.specs.List.{flat_map, join_with_byte}
use Rattle.std.specs.Char.{is_control, digit_char}
use Rattle.std.specs.Str.{chars, encode_utf8_all}
use Rattle.mr_mail.specs.Day.{Spells}
use Rattle.mr_version.specs.Name.{Name, name_text}
use Rattle.mr_maildir.specs.Letters.{letters_with}
use Rattle.mr_maildir.specs.View.{ViewParts}

-- the characters that a character is shown as: a space for a tab, two backslashes for one, and for another control
-- character `\x` and the two digits of its code
abbrev pub printed_char : ℕ → List ℕ
printed_char c =
    if c == 9 then 32 ∷ []
    else (if c == 92 then 92 ∷ 92 ∷ []
    else (if is_control c then 92 ∷ 120 ∷ digit_char (c / 16) ∷ digit_char (c % 16) ∷ [] else c ∷ []))

abbrev pub printed_chars : List ℕ → List ℕ
printed_chars cs = flat_map printed_char cs

-- the text as it is shown
abbrev pub printed : List ℕ → List ℕ
printed text = encode_utf8_all (printed_chars (chars text))

-- a tab looks like a space
abbrev pub spaced : ℕ → ℕ
spaced c = if c == 9 then 32 else c

-- what stands on a line, with a tab between each two
abbrev pub fields : List ℕ → ViewParts → List ℕ → List ℕ → List ℕ → List (List ℕ)
fields version view day from subject =
    version ∷ letters_with [] view.flags ∷ join_with_byte 44 view.labels ∷ day ∷ printed from ∷ printed subject ∷ []

-- the line of a mail: its version, letters, labels with commas between them, day, sender and subject
pub record IsListLine (version : Name) (view : ViewParts) (day : ℕ) (from subject line : List ℕ) : Type 0 where
  pub date : List ℕ
  pub spelled : Spells date day
  pub written : line ≡ join_with_byte 9 (fields (name_text version) view date from subject)
