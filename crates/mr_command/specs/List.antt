-- words that are lists
use Rattle.std.specs.Prelude.{◌≡◌, ℕ, ◌==◌, List, [], if◌then◌else◌, fold, map, codes, All}
use Rattle.std.specs.Int.RustNames.{bit_or}
use Rattle.std.specs.List.{slice_split}
use Rattle.mr_version.specs.Name.{Name, IsVersion, name_text}
use Rattle.mr_mail.specs.declared.flags.Flag.{Flag}
use Rattle.mr_mail.specs.Flag.{bit_of, flag_name}
use Rattle.mr_mail.specs.Label.{text_eq}

-- the parts of a text between its separators
abbrev pub parts_of : ℕ → List ℕ → List (List ℕ)
parts_of separator text = slice_split (λ b. b == separator) text

-- the parts of a word between its separators; a word that is a dot has none
abbrev pub pieces_of : ℕ → List ℕ → List (List ℕ)
pieces_of separator word = if text_eq word (codes ".") then [] else parts_of separator word

-- the flag byte that has these flags
abbrev pub united : List Flag → ℕ
united flags = fold (λ bits flag. bit_or bits (bit_of flag)) 0 flags

-- the word joins these flags by `+`
abbrev pub JoinsFlags : List ℕ → List Flag → Type 0
JoinsFlags word flags = map flag_name flags ≡ pieces_of 43 word

-- the word names the flags of this byte
pub record NamesFlags (word : List ℕ) (bits : ℕ) : Type 0 where
  pub flags : List Flag
  pub named : JoinsFlags word flags
  pub are : bits ≡ united flags

-- the author and the counter are in range
abbrev pub IsVersionName : Name → Type 0
IsVersionName v = IsVersion v.author v.counter

-- the word is this version's text
pub record SpellsVersion (word : List ℕ) (v : Name) : Type 0 where
  pub spelled : word ≡ name_text v
  pub is_version : IsVersionName v

-- the word joins these versions by `,`
pub record JoinsVersions (word : List ℕ) (versions : List Name) : Type 0 where
  pub joined : map name_text versions ≡ pieces_of 44 word
  pub each : All IsVersionName versions
