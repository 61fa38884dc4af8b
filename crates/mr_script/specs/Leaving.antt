-- what a script leaves behind it, whatever it prints
use Rattle.std.specs.Prelude.{◌≡◌, ◌⊎◌, ◌<◌, ◌≤◌, ◌+◌, ◌-◌, ℕ, List, [], ◌∷◌, length, Option, Some, None, Result, Ok, Err}
use Rattle.mr_forms.specs.Known.{Form}
use Rattle.mr_command.specs.declared.fault.LineFault.{LineFault}
use Rattle.mr_command.specs.declared.fault.LineFault.TheVariants.{OutOfMemory}
use Rattle.mr_script.specs.declared.fault.ScriptFault.{ScriptFault}
use Rattle.mr_script.specs.declared.fault.ScriptFault.TheVariants.{Line, TooLong, Write}
use Rattle.mr_script.specs.Run.{Breaks, LineDoes, end_of}
use Rattle.mr_script.specs.Script.{lines_of, line_text, looked_at}
use Rattle.mr_script.specs.Stage.{Stage}
use Rattle.mr_script.specs.declared.source.TheConstants.{MAX_SCRIPT_BYTES}

module _ {K : Type 0} (form : Form K) where
  -- From s, with room for so many bytes, these lines end so and leave the last stage. They are numbered from this number on.
  pub data Leaves : Stage K → (number room : ℕ) → (lines : List (List ℕ)) → (end : Option ScriptFault) → (last : Stage K) → Type 0 where
    -- no line is left
    all_run : {s : Stage K} {number room : ℕ} → Leaves s number room [] None s
    -- the reader fails, or there is no memory
    breaks : {s : Stage K} {number room : ℕ} {lines : List (List ℕ)} {fault : ScriptFault} → Breaks number fault → Leaves s number room lines (Some fault) s
    -- the next line ends past the greatest length
    too_long : {s : Stage K} {number room : ℕ} {line : List ℕ} {lines : List (List ℕ)} → room < length line → Leaves s number room (line ∷ lines) (Some TooLong) s
    -- it is at fault
    at_fault : {s last : Stage K} {number room : ℕ} {line : List ℕ} {lines : List (List ℕ)} {fault : LineFault} → length line ≤ room
        → LineDoes form s (line_text line) (Err fault) last → Leaves s number room (line ∷ lines) (Some (Line number fault)) last
    -- a line is run, and the lines after it go on
    goes_on : {s last : Stage K} (new : Stage K) {number room : ℕ} {line : List ℕ} {lines : List (List ℕ)} {end : Option ScriptFault} (text : List ℕ) → length line ≤ room
        → LineDoes form s (line_text line) (Ok text) new → Leaves new (number + 1) (room - length line) lines end last → Leaves s number room (line ∷ lines) end last

  -- From s, the script ends so and leaves the last stage.
  abbrev pub ScriptLeaves : Stage K → (script : List ℕ) → Option ScriptFault → (last : Stage K) → Type 0
  ScriptLeaves s script end last = Leaves s 1 MAX_SCRIPT_BYTES (lines_of (looked_at script)) end last

-- the writer failed, or there was no memory for an answer
abbrev pub IsOfOutput : Result (Unit {0}) ScriptFault → Type 0
IsOfOutput result = (result ≡ Err Write) ⊎ ((number : ℕ) × (result ≡ Err (Line number OutOfMemory)))

-- From the first stage on, the script ends as the result tells and leaves the last one. Where that tells of the output, it ends in some way.
pub record LeavesBehind {K : Type 0} (form : Form K) (first : Stage K) (script : List ℕ) (result : Result (Unit {0}) ScriptFault) (last : Stage K) : Type 0 where
  pub end : Option ScriptFault
  pub is_end : IsOfOutput result ⊎ (end ≡ end_of result)
  pub leaves : ScriptLeaves form first script end last
