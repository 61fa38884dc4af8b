-- what standard output holds when the program ends
use Rattle.std.specs.Prelude.{◌≡◌, ◌≢◌, ℕ, List, [], Bool, true, false, Option, Some, Result}
use Rattle.std.specs.Io.KnownBytes.{Appends}
use Rattle.mr_forms.specs.Known.{Form}
use Rattle.mr_script.specs.declared.fault.ScriptFault.{ScriptFault}
use Rattle.mr_script.specs.declared.fault.ScriptFault.TheVariants as stops
use Rattle.mr_script.specs.Run.{Prints, BeginsToPrint}
use Rattle.mr_script.specs.Writing.{Settles}
use Rattle.mr_script.specs.Frame.{Tells, bytes_of}
use Rattle.mr_live.specs.Live.{LiveEnds}
use Rattle.mr_live.specs.Plan.{PlanView, ScriptAsks}
use Rattle.mr_live.specs.declared.fault.LiveFault.{LiveFault}
use Rattle.mr_program.specs.declared.ending.Fault.TheVariants.{CommandLine, Write, OutOfMemory, NotTwo, Script}
use Rattle.mr_program.specs.declared.ending.Ending.{Ending}
use Rattle.mr_program.specs.declared.ending.Ending.TheVariants.{Done, NoFrame, Unexplained, WrongCommandLine, Closed, Stopped}
use Rattle.mr_program.specs.Ending.{ending_of, ending_of_live}

-- a beginning of the text was written, behind what was there
abbrev pub BeginsToWrite : (text : List ℕ) → (old new : Option (List ℕ)) → Type 0
BeginsToWrite text old new = (unwritten : List ℕ) × Settles old new text unwritten

-- It ends as the script does. It was written what the script prints: all of it unless a write failed, and a beginning of it wherever one did.
pub record EndsScript {K : Type 0} (form : Form K) (script : List ℕ) (ending : Ending) (old new : Option (List ℕ)) : Type 0 where
  pub end : Option ScriptFault
  pub is : ending ≡ ending_of end
  pub prints : end ≢ Some stops.Write → Prints form script end old new []
  pub begins : BeginsToPrint form script old new

-- it ends as the live script does, of whose lines this comes
pub record EndsLive {K : Type 0} (form : Form K) (script : List ℕ) (ending : Ending) (old new : Option (List ℕ)) : Type 0 where
  pub asks : Result PlanView ScriptFault
  pub are : ScriptAsks script asks
  pub joined : Result Bool LiveFault
  pub comes : LiveEnds form asks joined old new
  pub is : ending ≡ ending_of_live joined

-- the lines were written that tell the word, which spells no frame or spells one
pub record WritesFrame (word : List ℕ) (is_fault : Bool) (old new : Option (List ℕ)) : Type 0 where
  pub lines : List ℕ
  pub tell : Tells (bytes_of word) lines is_fault
  pub are : Appends old new lines

-- a beginning was written of the lines that tell the word
pub record BeginsFrame (word : List ℕ) (old new : Option (List ℕ)) : Type 0 where
  pub lines : List ℕ
  pub is_fault : Bool
  pub tell : Tells (bytes_of word) lines is_fault
  pub begins : BeginsToWrite lines old new

-- A frame was told, or that the word spells none. Or a write failed, and a beginning of that was written; or there was no memory, and nothing was written.
abbrev pub EndsFrame : List ℕ → Ending → (old new : Option (List ℕ)) → Type 0
EndsFrame word Done old new = WritesFrame word false old new
EndsFrame word NoFrame old new = WritesFrame word true old new
EndsFrame word (Stopped Write) old new = BeginsFrame word old new
EndsFrame word (Stopped OutOfMemory) old new = new ≡ old
EndsFrame word (Stopped CommandLine) old new = ⊥
EndsFrame word (Stopped NotTwo) old new = ⊥
EndsFrame word Unexplained old new = ⊥
EndsFrame word (Stopped (Script fault)) old new = ⊥
EndsFrame word WrongCommandLine old new = ⊥
EndsFrame word Closed old new = ⊥
