-- a script from its first line to its end
use Rattle.std.specs.Prelude.{◌≡◌, ◌<◌, ◌≤◌, ◌+◌, ◌-◌, ◌==◌, ℕ, Bool, true, false, List, [], ◌∷◌, ◌++◌, length, Option, Some, None, Result, Ok, Err, IfErr, IfSome, ◌≢◌, ◌⊎◌}
use Rattle.std.specs.Str.{IsUtf8}
use Rattle.std.specs.Io.KnownBytes.{Appends}
use Rattle.mr_forms.specs.Known.{Form}
use Rattle.mr_command.specs.declared.fault.LineFault.{LineFault}
use Rattle.mr_command.specs.declared.fault.LineFault.TheVariants.{NotText, OutOfMemory}
use Rattle.mr_script.specs.declared.fault.ScriptFault.{ScriptFault}
use Rattle.mr_script.specs.declared.fault.ScriptFault.TheVariants.{Line, Read, TooLong, Write}
use Rattle.mr_script.specs.Fault.{NumbersItsLine}
use Rattle.mr_command.specs.Command.{reads_command}
use Rattle.mr_command.specs.declared.command.Command.{Command}
use Rattle.mr_script.specs.Script.{lines_of, line_text, looked_at}
use Rattle.mr_script.specs.Stage.{Stage, Stage.opening, scene_of, Does}
use Rattle.mr_script.specs.declared.source.TheConstants.{MAX_SCRIPT_BYTES}

-- an empty line and one that begins with `#` are skipped
abbrev pub is_skipped : List ℕ → Bool
is_skipped [] = true
is_skipped (b ∷ bs) = b == 35

-- the fault that ended a script, if one did
abbrev pub end_of : {T : Type 0} → Result T ScriptFault → Option ScriptFault
end_of (Ok x) = None
end_of (Err fault) = Some fault

-- the reader fails, or there is no memory for the line of this number
abbrev pub Breaks : ℕ → ScriptFault → Type 0
Breaks number fault = (fault ≡ Read) ⊎ (fault ≡ Line number OutOfMemory)

-- no replica yet
abbrev pub bare : {K : Type 0} → Stage K
bare = opening []

module _ {K : Type 0} (form : Form K) where
  -- A line of text is skipped; or it can't be read as a command, and nothing changes; or it is one, which is done.
  pub data TextDoes (s : Stage K) (text : List ℕ) : Result (List ℕ) LineFault → Stage K → Type 0 where
    skipped : is_skipped text ≡ true → TextDoes s text (Ok []) s
    not_read : {fault : LineFault} → is_skipped text ≡ false → reads_command (scene_of s) text (Err fault) → TextDoes s text (Err fault) s
    done : (command : Command) {result : Result (List ℕ) LineFault} {new : Stage K} → is_skipped text ≡ false → reads_command (scene_of s) text (Ok command) → Does form s command result new → TextDoes s text result new

  -- From s, a line without its line feed prints this, and what is there goes on to new.
  abbrev pub LineDoes : Stage K → List ℕ → Result (List ℕ) LineFault → Stage K → Type 0
  LineDoes s line result new = (IsUtf8 line × TextDoes s line result new) ⊎ ((¬ IsUtf8 line) × (result ≡ Err NotText) × (new ≡ s))

  -- From s, with room for so many bytes, these lines print the output and end so. They are numbered from this number on.
  pub data Runs : Stage K → (number room : ℕ) → (lines : List (List ℕ)) → (end : Option ScriptFault) → (output : List ℕ) → Type 0 where
    -- no line is left
    all_run : {s : Stage K} {number room : ℕ} → Runs s number room [] None []
    -- the reader fails, or there is no memory
    breaks : {s : Stage K} {number room : ℕ} {lines : List (List ℕ)} {fault : ScriptFault} → Breaks number fault → Runs s number room lines (Some fault) []
    -- the next line ends past the greatest length
    too_long : {s : Stage K} {number room : ℕ} {line : List ℕ} {lines : List (List ℕ)} → room < length line → Runs s number room (line ∷ lines) (Some TooLong) []
    -- it is at fault
    at_fault : {s : Stage K} (new : Stage K) {number room : ℕ} {line : List ℕ} {lines : List (List ℕ)} {fault : LineFault} → length line ≤ room
        → LineDoes s (line_text line) (Err fault) new → Runs s number room (line ∷ lines) (Some (Line number fault)) []
    -- a line prints a text, and the lines after it go on
    prints : {s : Stage K} (new : Stage K) {number room : ℕ} {line : List ℕ} {lines : List (List ℕ)} {end : Option ScriptFault} {text output : List ℕ} → length line ≤ room
        → LineDoes s (line_text line) (Ok text) new → Runs new (number + 1) (room - length line) lines end output
        → Runs s number room (line ∷ lines) end (text ++ output)

  -- what the script prints, and how it ends
  abbrev pub RunsScript : List ℕ → Option ScriptFault → List ℕ → Type 0
  RunsScript script end output = Runs bare 1 MAX_SCRIPT_BYTES (lines_of (looked_at script)) end output

  -- Whatever the lines at the new place print, those at the old one print the text and then that.
  abbrev pub LeadsTo : Stage K → (number room : ℕ) → List ℕ → (text : List ℕ) → Stage K → (number_then room_then : ℕ) → List ℕ → Type 0
  LeadsTo s number room bytes text new number_then room_then left =
      (end : Option ScriptFault) (output : List ℕ) → Runs new number_then room_then (lines_of left) end output → Runs s number room (lines_of bytes) end (text ++ output)

-- of a script whose bytes are known, it was written what it prints but for what waits
pub record Prints {K : Type 0} (form : Form K) (script : List ℕ) (end : Option ScriptFault) (old new : Option (List ℕ)) (waits : List ℕ) : Type 0 where
  pub written : List ℕ
  pub are : Appends old new written
  pub runs : RunsScript form script end (written ++ waits)

-- Of a script whose bytes are known, it was written what its lines print up to some place, but for what waits. Whatever the lines from there on print comes after it.
pub record PrintsSoFar {K : Type 0} (form : Form K) (script : List ℕ) (old new : Option (List ℕ)) (waits : List ℕ) : Type 0 where
  pub written : List ℕ
  pub are : Appends old new written
  pub reached : Stage K
  pub number : ℕ
  pub room : ℕ
  pub rest : List ℕ
  pub leads : LeadsTo form bare 1 MAX_SCRIPT_BYTES (looked_at script) (written ++ waits) reached number room rest

-- of a script whose bytes are known, a beginning was written of what it prints
abbrev pub BeginsToPrint : {K : Type 0} → Form K → List ℕ → (old new : Option (List ℕ)) → Type 0
BeginsToPrint form script old new = (unwritten : List ℕ) × PrintsSoFar form script old new unwritten

-- How a run of a script ends, which may be known, and what it has written then: all that the script prints where no write failed, and a beginning of it wherever one did.
pub record PrintsAll {K : Type 0} (form : Form K) (script : Option (List ℕ)) (result : Result (Unit {0}) ScriptFault) (old new : Option (List ℕ)) : Type 0 where
  pub too_long : result ≡ Err TooLong → IfSome script (λ bytes. MAX_SCRIPT_BYTES < length bytes)
  pub line : IfErr result NumbersItsLine
  pub prints : result ≢ Err Write → IfSome script (λ bytes. Prints form bytes (end_of result) old new [])
  pub begins : IfSome script (λ bytes. BeginsToPrint form bytes old new)
