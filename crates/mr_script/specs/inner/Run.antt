-- what a script prints and leaves, line by line
use Rattle.std.specs.Prelude.{◌≡◌, ◌≢◌, ◌+◌, ℕ, List, [], Option, Some, None, Result, Ok, Err, string_bytes}
use Rattle.std.specs.declared.string.String.{String}
use Rattle.std.specs.declared.alloc.Global.{Global}
use Rattle.mr_forms.specs.Known.{Form}
use Rattle.mr_script.specs.declared.fault.ScriptFault.{ScriptFault}
use Rattle.mr_script.specs.declared.fault.ScriptFault.TheVariants.{Write}
use Rattle.mr_script.specs.Leaving.{Leaves, LeavesBehind}
use Rattle.mr_script.specs.Run.{LeadsTo, Prints, PrintsSoFar, Runs, end_of}
use Rattle.mr_script.specs.Script.{lines_of}
use Rattle.mr_script.specs.Stage.{Stage}

module _ {K : Type 0} (form : Form K) where
  -- From s, with room for so many bytes, these lines print the output, end so and leave the last stage. They are numbered from this number on.
  pub record Goes (s : Stage K) (number room : ℕ) (lines : List (List ℕ)) (end : Option ScriptFault) (output : List ℕ) (last : Stage K) : Type 0 where
    pub prints : Runs form s number room lines end output
    pub leaves : Leaves form s number room lines end last

  -- Whatever the lines at the new place print and leave, those at the old one print the text and then that, and leave it.
  pub record Leads (s : Stage K) (number room : ℕ) (bytes text : List ℕ) (new : Stage K) (number_then room_then : ℕ) (left : List ℕ) : Type 0 where
    pub prints : LeadsTo form s number room bytes text new number_then room_then left
    pub leaves : (end : Option ScriptFault) (last : Stage K) → Leaves form new number_then room_then (lines_of left) end last → Leaves form s number room (lines_of bytes) end last

  -- what comes of the next line of these bytes
  abbrev pub NextGoes : Stage K → (number room : ℕ) → List ℕ → Result (Option (String Global)) ScriptFault → Stage K → Option (List ℕ) → ℕ → Type 0
  NextGoes s number room bytes (Ok (Some text)) new left room_then =
      (rest : List ℕ) × (left ≡ Some rest) × Leads s number room bytes (string_bytes text) new (number + 1) room_then rest
  NextGoes s number room bytes (Ok None) new left room_then = Goes s number room (lines_of bytes) None [] new
  NextGoes s number room bytes (Err fault) new left room_then = Goes s number room (lines_of bytes) (Some fault) [] new

  -- a script that was run to this result printed so much but for what waits, and left the last stage
  pub record RanTo (first : Stage K) (script : List ℕ) (result : Result (Unit {0}) ScriptFault) (old new : Option (List ℕ)) (waits : List ℕ) (last : Stage K) : Type 0 where
    pub prints : result ≢ Err Write → Prints form script (end_of result) old new waits
    pub so_far : PrintsSoFar form script old new waits
    pub leaves : LeavesBehind form first script result last
