-- as many words as a line has to have after its first
use Rattle.std.specs.Prelude.{ℕ, List, [], ◌∷◌, Option, Some, None}
use Rattle.mr_command.specs.declared.fault.LineFault.TheVariants.{WrongWords}
use Rattle.mr_command.specs.Reading.{Reading, gives, fails}

-- the text of a word
abbrev pub Text : Type 0
Text = List ℕ

-- one word
abbrev pub takes_one : List Text → Reading Text
takes_one (a ∷ []) = gives a
takes_one args = fails WrongWords

-- two words
abbrev pub takes_two : List Text → Reading (Text × Text)
takes_two (a ∷ b ∷ []) = gives (a, b)
takes_two args = fails WrongWords

-- three words
abbrev pub takes_three : List Text → Reading (Text × Text × Text)
takes_three (a ∷ b ∷ c ∷ []) = gives (a, b, c)
takes_three args = fails WrongWords

-- two words, and a third that may be missing
abbrev pub takes_two_or_three : List Text → Reading (Text × Text × Option Text)
takes_two_or_three (a ∷ b ∷ []) = gives (a, b, None)
takes_two_or_three (a ∷ b ∷ c ∷ []) = gives (a, b, Some c)
takes_two_or_three args = fails WrongWords
