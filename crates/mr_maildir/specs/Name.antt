-- names of files
use Rattle.std.specs.Prelude.{◌≢◌, ℕ, Bool, not, ◌==◌, ◌&&◌, ◌||◌, nat_le, IsTrue, List, [], ◌∷◌, ◌++◌, length, slice_index, Option, Some, None, if◌then◌else◌}
use Rattle.std.specs.List.{list_all}
use Rattle.std.specs.Option.{option_copied}
use Rattle.hex.specs.Hex.{encode_lower}
use Rattle.mr_maildir.specs.Letters.{is_info_byte}
use Rattle.mr_maildir.specs.Path.{IsPathPart}
use Rattle.mr_maildir.specs.declared.name.FileName.{FileName}

-- a name: what is unique of it, and the letters behind `:2,`, if it has these three
pub record NameParts : Type 0 where
  pub unique : List ℕ
  pub letters : Option (List ℕ)

abbrev pub parts_of : FileName → NameParts
parts_of name = record { unique = name.unique.now; letters = option_copied name.letters }

-- no byte is a colon
abbrev pub lacks_colon : List ℕ → Bool
lacks_colon text = list_all (λ b. not (b == 58)) text

-- `:2,` and the letters
abbrev pub info_text : Option (List ℕ) → List ℕ
info_text None = []
info_text (Some letters) = 58 ∷ 50 ∷ 44 ∷ letters

-- how a name is written
abbrev pub name_text : NameParts → List ℕ
name_text name = name.unique ++ info_text name.letters

-- parts of a name that ends in letters: the first has no colon, and each letter may stand there
pub record HasLetters (unique letters : List ℕ) : Type 0 where
  pub colon : IsTrue (lacks_colon unique)
  pub each : IsTrue (list_all is_info_byte letters)

-- a text that is no such name
abbrev pub LacksLetters : List ℕ → Type 0
LacksLetters text = (unique letters : List ℕ) → HasLetters unique letters → text ≢ unique ++ 58 ∷ 50 ∷ 44 ∷ letters

abbrev pub AreParts : List ℕ → Option (List ℕ) → Type 0
AreParts unique None = LacksLetters unique
AreParts unique (Some letters) = HasLetters unique letters

-- the parts of a name: it ends in letters where it can be read so
abbrev pub IsName : NameParts → Type 0
IsName name = AreParts name.unique name.letters

-- A-Z, a-z, 0-9 and . _ , = + -
abbrev pub is_safe_byte : ℕ → Bool
is_safe_byte b = (nat_le 97 b && nat_le b 122) || (nat_le 65 b && nat_le b 90) || (nat_le 48 b && nat_le b 57) || (b == 46) || (b == 95) || (b == 44) || (b == 61) || (b == 43) || (b == 45)

-- one to 200 safe bytes, of which the first is no dot
abbrev pub is_safe_name : List ℕ → Bool
is_safe_name text = nat_le 1 (length text) && nat_le (length text) 200 && not (slice_index text 0 == 46) && list_all is_safe_byte text

-- the unique part that a file gets: the one that was told, if it is safe, else the digits of the digest of its bytes
abbrev pub unique_for : List ℕ → List ℕ → List ℕ
unique_for told digest = if is_safe_name told then told else encode_lower digest

-- a name that makes a path, and that can be read again before letters
pub record IsMadeName (text : List ℕ) : Type 0 where
  pub part : IsPathPart text
  pub colon : IsTrue (lacks_colon text)
