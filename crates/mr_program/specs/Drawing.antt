-- what standard output holds when a picture was drawn
use Rattle.std.specs.Prelude.{◌≡◌, ℕ, List, [], Option}
use Rattle.std.specs.Io.KnownBytes.{Appends}
use Rattle.mr_forms.specs.Known.{Form}
use Rattle.mr_script.specs.declared.fault.ScriptFault.{ScriptFault}
use Rattle.mr_script.specs.Leaving.{ScriptLeaves}
use Rattle.mr_script.specs.Run.{bare}
use Rattle.mr_script.specs.Stage.{Stage, Stage.opening, Stage.running}
use Rattle.mr_draw.specs.Picture.{Draws}
use Rattle.mr_draw.specs.Sheet.{blank_text}
use Rattle.mr_program.specs.declared.ending.Fault.TheVariants.{CommandLine, Write, OutOfMemory, NotTwo, Script}
use Rattle.mr_program.specs.declared.ending.Ending.{Ending}
use Rattle.mr_program.specs.declared.ending.Ending.TheVariants.{Done, NoFrame, Unexplained, WrongCommandLine, Closed, Stopped}
use Rattle.mr_program.specs.Ending.{ending_of}
use Rattle.mr_program.specs.Printing.{BeginsToWrite}
use Rattle.mr_program.specs.Text.{fault_text}

-- what stands under a picture: the fault that ended the script, or nothing
abbrev pub text_under : Ending → List ℕ
text_under (Stopped fault) = fault_text fault
text_under Done = []
text_under NoFrame = []
text_under Unexplained = []
text_under WrongCommandLine = []
text_under Closed = []

-- the picture of the world that a script left, with these names above its lanes; of no replica where it came to no world
abbrev pub DrawsStage : {K : Type 0} → (names : List (List ℕ)) → Stage K → (under svg : List ℕ) → Type 0
DrawsStage names (opening specs) under svg = svg ≡ blank_text under
DrawsStage names (running w) under svg = Draws w names under svg

-- the picture of what a script left that ended so, with its fault under it
pub record DrawsScript {K : Type 0} (form : Form K) (names : List (List ℕ)) (script : List ℕ) (end : Option ScriptFault) (svg : List ℕ) : Type 0 where
  pub last : Stage K
  pub leaves : ScriptLeaves form bare script end last
  pub draws : DrawsStage names last (text_under (ending_of end)) svg

-- it ends as the script does, and its picture was written
pub record WritesPicture {K : Type 0} (form : Form K) (names : List (List ℕ)) (script : List ℕ) (ending : Ending) (old new : Option (List ℕ)) : Type 0 where
  pub end : Option ScriptFault
  pub is : ending ≡ ending_of end
  pub svg : List ℕ
  pub draws : DrawsScript form names script end svg
  pub are : Appends old new svg

-- a beginning was written of the script's picture
pub record BeginsPicture {K : Type 0} (form : Form K) (names : List (List ℕ)) (script : List ℕ) (old new : Option (List ℕ)) : Type 0 where
  pub end : Option ScriptFault
  pub svg : List ℕ
  pub draws : DrawsScript form names script end svg
  pub begins : BeginsToWrite svg old new

-- The picture was written; or a write failed, and a beginning of it was written; or there was no memory for it, and nothing was written.
abbrev pub EndsPicture : {K : Type 0} → Form K → (names : List (List ℕ)) → List ℕ → Ending → (old new : Option (List ℕ)) → Type 0
EndsPicture form names script (Stopped Write) old new = BeginsPicture form names script old new
EndsPicture form names script (Stopped OutOfMemory) old new = new ≡ old
EndsPicture form names script (Stopped CommandLine) old new = ⊥
EndsPicture form names script (Stopped NotTwo) old new = ⊥
EndsPicture form names script (Stopped (Script fault)) old new = WritesPicture form names script (Stopped (Script fault)) old new
EndsPicture form names script Done old new = WritesPicture form names script Done old new
EndsPicture form names script NoFrame old new = ⊥
EndsPicture form names script Unexplained old new = ⊥
EndsPicture form names script WrongCommandLine old new = ⊥
EndsPicture form names script Closed old new = ⊥
