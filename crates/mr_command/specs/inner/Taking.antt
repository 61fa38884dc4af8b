-- lines with one word more at most
use Rattle.std.specs.Prelude.{List, [], ◌∷◌, Option, Some, None}
use Rattle.mr_command.specs.declared.fault.LineFault.TheVariants.{WrongWords}
use Rattle.mr_command.specs.Reading.{Reading, gives, fails}
use Rattle.mr_command.specs.Taking.{Text}

-- one word, or none
abbrev pub takes_at_most_one : List Text → Reading (Option Text)
takes_at_most_one [] = gives None
takes_at_most_one (a ∷ []) = gives (Some a)
takes_at_most_one args = fails WrongWords
