-- a script as bytes: its lines, and how much of it was read
use Rattle.std.specs.Prelude.{◌≡◌, ◌≢◌, ℕ, ◌+◌, ◌<◌, ◌≤◌, ◌==◌, if◌then◌else◌, true, false, Bool, List, [], ◌∷◌, length, take, Option, Some, None, Result, Ok, Err, ⊤}
use Rattle.std.specs.List.{onto_first}
use Rattle.std.specs.Io.BufRead.{take_through, drop_through, strip_last}
use Rattle.std.specs.Io.Buffered.{reader_remaining}
use Rattle.std.specs.Io.Take.{take_remaining}
use Rattle.mr_script.specs.declared.metered.Metered.{Metered}
use Rattle.mr_script.specs.declared.source.Source.{Source}
use Rattle.mr_script.specs.declared.source.SourceFault.{SourceFault}
use Rattle.mr_script.specs.declared.source.SourceFault.TheVariants.{OutOfMemory, Read, TooLong}
use Rattle.mr_script.specs.declared.source.TheConstants.{MAX_SCRIPT_BYTES}

-- the lines, each with its line feed, which the last may lack
abbrev pub lines_of : List ℕ → List (List ℕ)
lines_of [] = []
lines_of (b ∷ bs) = if b == 10 then (b ∷ []) ∷ lines_of bs else onto_first b (lines_of bs)

-- a line without its line feed
abbrev pub line_text : List ℕ → List ℕ
line_text line = strip_last 10 line

-- the bytes of a script that are looked at: one more than it may have, so that it shows where there are too many
unfoldable pub looked_at : List ℕ → List ℕ
looked_at script = take (MAX_SCRIPT_BYTES + 1) script

-- the bytes that are left, whatever number of calls is left
abbrev pub metered_remaining : {R : Type 0} → (R → Option (List ℕ)) → Metered R → Option (List ℕ)
metered_remaining remaining metered = remaining metered.reader

-- the bytes of a script that are left, up to the last that is looked at, where they are known
abbrev pub source_remaining : {R : Type 0} → (R → Option (List ℕ)) → Source R → Option (List ℕ)
source_remaining remaining source = reader_remaining (take_remaining (metered_remaining remaining)) source.reader

-- of a script whose bytes are known, no more was taken than is gone from what is left
abbrev pub Accounts : Option (List ℕ) → Option (List ℕ) → ℕ → Type 0
Accounts None left taken = ⊤
Accounts (Some script) None taken = ⊥
Accounts (Some script) (Some left) taken = taken + length left ≤ length script

-- the next line is that of the bytes, which lose it
pub record IsNextLine (bytes : List ℕ) (taken : ℕ) (line : List ℕ) (left : Option (List ℕ)) (taken_then : ℕ) : Type 0 where
  pub some : bytes ≢ []
  pub text : line ≡ line_text (take_through 10 bytes)
  pub rest : left ≡ Some (drop_through 10 bytes)
  pub counted : taken_then ≡ taken + length (take_through 10 bytes)

-- what comes of taking the next line of these bytes
abbrev pub TakesLine : List ℕ → ℕ → Result Bool SourceFault → List ℕ → Option (List ℕ) → ℕ → Type 0
TakesLine bytes taken (Ok true) line left taken_then = IsNextLine bytes taken line left taken_then
TakesLine bytes taken (Ok false) line left taken_then = bytes ≡ []
TakesLine bytes taken (Err TooLong) line left taken_then = (bytes ≢ []) × (MAX_SCRIPT_BYTES < taken + length (take_through 10 bytes))
TakesLine bytes taken (Err Read) line left taken_then = ⊤
TakesLine bytes taken (Err OutOfMemory) line left taken_then = ⊤
