-- a sender whose letters are known beforehand
use Rattle.std.specs.Prelude.{◌≡◌, List}
use Rattle.mr_threads.specs.Exchange.{Said, letters_said}
use Rattle.mr_threads.specs.declared.letters.Letters.{Letters}

-- just its letters were said, in order, whatever was answered
abbrev pub SaysLetters : {E A : Type 0} → Letters E → List (Said E A) → Letters E → Type 0
SaysLetters old xs new = letters_said xs ≡ old.letters.items
