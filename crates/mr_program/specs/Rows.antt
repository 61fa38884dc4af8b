-- worked rows: texts and statuses at which they must come out
use Rattle.std.specs.Prelude.{◌≡◌, ◌++◌, ℕ, List, [], ◌∷◌, codes, refl, true, false, Option, None, Some, Ok, Err}
use Rattle.std.specs.Fmt.{digits}
use Rattle.std.proofs.Common.{inl, sym, subst}
use Rattle.mr_forms.specs.Known.{Form}
use Rattle.mr_command.specs.declared.fault.LineFault.TheVariants.{BadFilter, BadNumber, MessageRefused}
use Rattle.mr_script.specs.declared.fault.ScriptFault.TheVariants.{Line, Read, TooLong}
use Rattle.mr_script.specs.declared.fault.ScriptFault.{ScriptFault}
use Rattle.mr_script.specs.declared.fault.ScriptFault.TheVariants as script
use Rattle.mr_script.specs.Frame.{Tells, bytes_of}
use Rattle.mr_script.specs.Leaving.Leaves.{all_run as leaves_all}
use Rattle.mr_script.specs.Run.{Runs, bare}
use Rattle.mr_script.specs.Run.Runs.{all_run, breaks}
use Rattle.mr_script.specs.Script.{looked_at}
use Rattle.mr_script.specs.Stage.{Stage}
use Rattle.mr_draw.specs.Sheet.{blank_text}
use Rattle.mr_live.specs.declared.fault.LiveFault.TheVariants as live
use Rattle.mr_program.specs.declared.ending.Fault.TheVariants.{CommandLine, Write, OutOfMemory, Script}
use Rattle.mr_program.specs.declared.ending.Ending.TheVariants.{Done, Closed, Stopped}
use Rattle.mr_program.specs.Drawing.{EndsPicture, text_under}
use Rattle.mr_program.specs.Ending.{ending_behind, ending_of, ending_of_live, status_of}
use Rattle.mr_program.specs.Printing.{BeginsToWrite, EndsFrame, EndsScript}
use Rattle.mr_program.specs.Text.{fault_text}

-- a faulty line is told with its number
pub bad_number_text : fault_text (Script (Line 2 BadNumber)) ≡ codes "line 2: bad number"
unfolding digits
bad_number_text = refl

-- and so is the place in a filter
pub bad_filter_text : fault_text (Script (Line 10 (BadFilter 0))) ≡ codes "line 10: bad filter at 0"
unfolding digits
bad_filter_text = refl

-- and the limit that a message breaks
pub message_refused_text : fault_text (Script (Line 3 (MessageRefused 4))) ≡ codes "line 3: message refused 4"
unfolding digits
message_refused_text = refl

-- a reader's fault has no line
pub read_fault_text : fault_text (Script Read) ≡ codes "read fault"
read_fault_text = refl

-- a script that ran to its end is status 0
pub done_status : status_of (ending_of None) ≡ 0
done_status = refl

-- a faulty line is status 1
pub line_status : status_of (ending_of (Some (Line 1 BadNumber))) ≡ 1
line_status = refl

-- and so are a script that is too long and a write that failed
pub too_long_status : status_of (ending_of (Some TooLong)) ≡ 1
too_long_status = refl

pub write_status : status_of (ending_of (Some script.Write)) ≡ 1
write_status = refl

-- a command line that is no text is wrong
pub no_text_status : status_of (Stopped CommandLine) ≡ 2
no_text_status = refl

-- a write that failed is none to tell of where nobody reads on, of a script's answers or of any other text
pub closed_script : ending_behind true (ending_of (Some script.Write)) ≡ Closed
closed_script = refl

pub closed_text : ending_behind true (Stopped Write) ≡ Closed
closed_text = refl

-- but it is told where the output failed otherwise
pub failed_write : ending_behind false (Stopped Write) ≡ Stopped Write
failed_write = refl

-- and a faulty line is, also where nobody reads on
pub faulty_line : ending_behind true (ending_of (Some (Line 1 BadNumber))) ≡ ending_of (Some (Line 1 BadNumber))
faulty_line = refl

pub closed_status : status_of Closed ≡ 141
closed_status = refl

-- two nodes whose logs join are status 0
pub joined_status : status_of (ending_of_live (Ok true)) ≡ 0
joined_status = refl

-- and such whose logs do not are status 1, as another number of replicas is
pub unexplained_status : status_of (ending_of_live (Ok false)) ≡ 1
unexplained_status = refl

pub not_two_status : status_of (ending_of_live (Err live.NotTwo)) ≡ 1
not_two_status = refl

-- a fault of a live script's line is told as that of any script
pub live_line_text : text_under (ending_of_live (Err (live.Script (Line 2 BadNumber)))) ≡ codes "line 2: bad number"
unfolding digits
live_line_text = refl

-- nothing stands under the picture of a script that ran to its end
pub nothing_under : text_under Done ≡ []
nothing_under = refl

-- and what standard error is told, without a line feed, under that of one that did not
pub fault_under : text_under (Stopped (Script (Line 2 BadNumber))) ≡ codes "line 2: bad number"
unfolding digits
fault_under = refl

-- ---- what is written where a write fails or memory runs out

-- a beginning comes behind what was there, and may be nothing or all
pub behind : BeginsToWrite (codes "not hex\n") (Some (codes "> ")) (Some (codes "> not"))
behind = (codes " hex\n", record { written = codes "not"; are = refl; all = refl })

pub none_of_it : BeginsToWrite (codes "not hex\n") (Some (codes "> ")) (Some (codes "> "))
none_of_it = (codes "not hex\n", record { written = []; are = refl; all = refl })

pub all_of_it : BeginsToWrite (codes "not hex\n") (Some (codes "> ")) (Some (codes "> not hex\n"))
all_of_it = ([], record { written = codes "not hex\n"; are = refl; all = refl })

-- another part of it is none, and what was there may not go
pub no_other_part : ¬ BeginsToWrite (1 ∷ 2 ∷ []) (Some []) (Some (2 ∷ []))
no_other_part (unwritten, settles) = cc (subst (λ (written : List ℕ). 1 ∷ 2 ∷ [] ≡ written ++ unwritten) (sym settles.are) settles.all)

pub old_stays : ¬ BeginsToWrite (1 ∷ []) (Some (2 ∷ [])) (Some (1 ∷ []))
old_stays (unwritten, settles) = cc settles.are

-- of a word that spells no bytes
pub frame_begun : (word : List ℕ) → Tells (bytes_of word) (codes "not hex\n") true → EndsFrame word (Stopped Write) (Some (codes "> ")) (Some (codes "> not"))
frame_begun word tell = record { lines = codes "not hex\n"; is_fault = true; tell = tell; begins = behind }

-- without memory nothing is told of a word
pub no_frame : (word : List ℕ) → ¬ EndsFrame word (Stopped OutOfMemory) (Some []) (Some (codes "not"))
no_frame word is = cc is

module _ {K : Type 0} (form : Form K) where
  -- a picture may not be begun at all
  pub picture_not_begun : EndsPicture form [] [] (Stopped Write) (Some (codes "> ")) (Some (codes "> "))
  unfolding looked_at
  picture_not_begun = record {
    end = None;
    svg = blank_text [];
    draws = record { last = bare; leaves = leaves_all; draws = refl };
    begins = (blank_text [], record { written = []; are = refl; all = refl });
  }

  pub no_picture : ¬ EndsPicture form [] [] (Stopped OutOfMemory) (Some []) (Some (codes "<svg"))
  no_picture is = cc is

  nothing_printed : (s : Stage K) (number room : ℕ) (end : Option ScriptFault) (output : List ℕ) → Runs form s number room [] end output → output ≡ []
  nothing_printed s number room end output all_run = refl
  nothing_printed s number room end output (breaks broken) = refl

  begins_with : (written unwritten : List ℕ) → written ≡ codes "x" → (written ++ unwritten) ++ [] ≡ [] → ⊥
  begins_with written unwritten is none = cc (subst (λ (text : List ℕ). (text ++ unwritten) ++ [] ≡ []) is none)

  -- an empty script has nothing printed, also where a write fails
  pub nothing_of_nothing : ¬ EndsScript form [] (Stopped (Script script.Write)) (Some []) (Some (codes "x"))
  unfolding looked_at
  nothing_of_nothing is =
      let begun = is.begins.1 in
      let none = nothing_printed bare 1 16777216 (Some Read) _ (begun.leads (Some Read) [] (breaks (inl refl))) in
      begins_with begun.written is.begins.0 (sym begun.are) none
