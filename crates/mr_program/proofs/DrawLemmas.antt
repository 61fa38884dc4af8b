-- how the program ends where a picture was drawn
use Rattle.std.proofs.Common.{◌≡◌, ◌⊎◌, ℕ, List, Option, Some, None, Result, Ok, Err, IfOk, inl, inr, string_bytes, refl, sym, subst}
use Rattle.std.specs.Io.KnownBytes.{Appends}
use Rattle.std.specs.declared.string.String.{String}
use Rattle.std.specs.declared.alloc.AllocError.{AllocError}
use Rattle.std.specs.declared.alloc.Global.{Global}
use Rattle.mr_forms.specs.Known.{Form}
use Rattle.mr_world.specs.Kept.{WorldView}
use Rattle.mr_script.specs.declared.fault.ScriptFault.{ScriptFault}
use Rattle.mr_script.specs.Leaving.{ScriptLeaves}
use Rattle.mr_script.specs.Run.{bare}
use Rattle.mr_script.specs.Stage.{Stage, Stage.opening, Stage.running, world_of}
use Rattle.mr_draw.specs.Picture.{Draws}
use Rattle.mr_draw.specs.Sheet.{blank_text}
use Rattle.mr_program.specs.declared.ending.Fault.{Fault}
use Rattle.mr_program.specs.declared.ending.Fault.TheVariants.{CommandLine, Write, OutOfMemory, NotTwo, Script}
use Rattle.mr_program.specs.declared.ending.Ending.{Ending}
use Rattle.mr_program.specs.declared.ending.Ending.TheVariants.{Stopped}
use Rattle.mr_program.specs.Drawing.{DrawsScript, DrawsStage, EndsPicture, text_under}
use Rattle.mr_program.specs.inner.Drawing.{PrintsPicture}
use Rattle.mr_program.specs.inner.Printing.{PrintsText}
use Rattle.mr_program.specs.Ending.{ending_of}

same_if_some : {A : Type 0} (x y : A) → Some x ≡ Some y → x ≡ y
same_if_some x y e = cc

none_is_not_some : {A : Type 0} (x : A) → Some x ≡ None → ⊥
none_is_not_some x e = cc

-- the picture of what a script left: of its world
pub draws_world : {K : Type 0} (s : Stage K) (w : WorldView K) → Some w ≡ world_of s → (names : List (List ℕ)) → (under svg : List ℕ) → Draws w names under svg → DrawsStage names s under svg
draws_world (opening specs) w is names under svg draws = absurd (none_is_not_some w is)
draws_world {K} (running v) w is names under svg draws = subst (λ (x : WorldView K). Draws x names under svg) (same_if_some w v is) draws

-- or of none
pub draws_none : {K : Type 0} (s : Stage K) → None ≡ world_of s → (names : List (List ℕ)) → (under svg : List ℕ) → svg ≡ blank_text under → DrawsStage names s under svg
draws_none (opening specs) is names under svg draws = draws
draws_none (running v) is names under svg draws = absurd (none_is_not_some v (sym is))

module _ {K : Type 0} (form : Form K) (names : List (List ℕ)) (script : List ℕ) (last : Stage K) (end : Option ScriptFault) (old new : Option (List ℕ)) where
  -- the picture was written
  drawn : (stop : Option ScriptFault) (svg : List ℕ) → DrawsScript form names script stop svg → Appends old new svg → EndsPicture form names script (ending_of stop) old new
  drawn None svg draws are = record { end = None; is = refl; svg = svg; draws = draws; are = are }
  drawn (Some fault) svg draws are = record { end = Some fault; is = refl; svg = svg; draws = draws; are = are }

  -- or something kept it from being written
  kept_from : (svg : List ℕ) → DrawsScript form names script end svg → (fault : Fault) → PrintsText svg (Err fault) old new → EndsPicture form names script (Stopped fault) old new
  kept_from svg draws CommandLine printed = printed
  kept_from svg draws Write printed = record { end = end; svg = svg; draws = draws; begins = printed }
  kept_from svg draws OutOfMemory printed = printed
  kept_from svg draws NotTwo printed = printed
  kept_from svg draws (Script stop) printed = absurd printed

  written : (ran result : Ending) → ran ≡ ending_of end → (svg : List ℕ) → DrawsScript form names script end svg
      → ((result ≡ ran) × PrintsText svg (Ok tt) old new) ⊎ ((fault : Fault) × (result ≡ Stopped fault) × PrintsText svg (Err fault) old new) → EndsPicture form names script result old new
  written ran result is svg draws (inl p) = rw (p.0, is) (drawn end svg draws p.1)
  written ran result is svg draws (inr (fault, same, printed)) = rw same (kept_from svg draws fault printed)

  -- or there was no memory for it
  pub ends_picture : (ran result : Ending) → ScriptLeaves form bare script end last → ran ≡ ending_of end → (picture : Result (String Global) AllocError)
      → IfOk picture (λ svg. DrawsStage names last (text_under ran) (string_bytes svg)) → PrintsPicture picture ran result old new → EndsPicture form names script result old new
  ends_picture ran result leaves is (Ok svg) draws prints =
      written ran result is (string_bytes svg) (record { last = last; leaves = leaves; draws = rw is at draws }) prints
  ends_picture ran result leaves is (Err error) draws (same, unwritten) = rw same unwritten
