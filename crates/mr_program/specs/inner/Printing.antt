-- a text that is written, or not
use Rattle.std.specs.Prelude.{◌≡◌, ℕ, List, Option, Result, Ok, Err}
use Rattle.std.specs.Io.KnownBytes.{Appends}
use Rattle.mr_program.specs.declared.ending.Fault.{Fault}
use Rattle.mr_program.specs.declared.ending.Fault.TheVariants.{CommandLine, Write, OutOfMemory, NotTwo, Script}
use Rattle.mr_program.specs.Printing.{BeginsToWrite}

-- The text was written. Or a write failed, and a beginning of it was written; or there was no memory for it, and nothing was written.
abbrev pub PrintsText : (text : List ℕ) → Result (Unit {0}) Fault → (old new : Option (List ℕ)) → Type 0
PrintsText text (Ok _) old new = Appends old new text
PrintsText text (Err Write) old new = BeginsToWrite text old new
PrintsText text (Err OutOfMemory) old new = new ≡ old
PrintsText text (Err CommandLine) old new = ⊥
PrintsText text (Err NotTwo) old new = ⊥
PrintsText text (Err (Script fault)) old new = ⊥
