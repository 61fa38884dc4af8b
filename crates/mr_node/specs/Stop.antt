-- why a link stops, and what passed over it till then
use Rattle.std.specs.Prelude.{◌≡◌, ◌+◌, ◌++◌, ◌⊎◌, ℕ, Bool, false, IsTrue, List, [], ◌∷◌}
use Rattle.mr_wire.specs.declared.frame.Frame.{Frame}
use Rattle.mr_frames.specs.Calls.{IsDrained}
use Rattle.mr_link.specs.Wire.{WireView, PassesWell, GoesDown, IsSpoilt}
use Rattle.mr_threads.specs.Exchange.{letters_said}
use Rattle.mr_node.specs.Saying.{Saying, frames_read, frames_given, receives, HasLet}
use Rattle.mr_node.specs.Turn.{reads, AreWhole, IsCutShort, cut_behind}
use Rattle.mr_node.specs.declared.turn.Turn.{Turn}
use Rattle.mr_node.specs.declared.turn.Turn.TheVariants as turn
use Rattle.mr_node.specs.declared.turn.Stop.{Stop}
use Rattle.mr_node.specs.declared.turn.Stop.TheVariants.{Refused, NotSent, NotReceived, BadFrame, Shut}

-- The letters were made of the frames that were read, and their answers gave the frames that were sent. But the last of these was not sent where the link was down; no whole frame was left unread where none came; and a frame more was read where the turn doesn't read such a frame, or where the gate, which may close here, did not let it pass.
abbrev pub Stops : (may_close : Bool) → Turn → WireView → (read given : List Frame) → Stop → WireView → Type 0
Stops may_close t old read given Refused new = PassesWell old read given new
Stops may_close t old read given NotSent new = (gone : List Frame) × (last : Frame) × (given ≡ gone ++ last ∷ []) × GoesDown old read gone new
Stops may_close t old read given NotReceived new = GoesDown old read given new × IsDrained new.unread
Stops may_close t old read given BadFrame new = IsSpoilt old read given new ⊎ ((f : Frame) × (reads t f ≡ false) × PassesWell old (read ++ f ∷ []) given new)
Stops may_close t old read given Shut new = (t ≡ turn.Pull) × IsTrue may_close × ((f : Frame) × PassesWell old (read ++ f ∷ []) given new)

-- all turns were taken, each whole
pub record IsThrough (turns : List Turn) (old : WireView) (xs : List Saying) (new : WireView) : Type 0 where
  pub are_whole : AreWhole turns xs
  pub passes : PassesWell old (frames_read xs) (frames_given xs) new

-- So many turns were taken, each whole, and then one was cut short: what it had open was cut, and nothing was said behind that. The gate was asked for the records behind those that were posted.
pub record IsStopped (closes : ℕ → Bool) (turns : List Turn) (old : WireView) (xs : List Saying) (new : WireView) : Type 0 where
  pub before : List Turn
  pub turn : Turn
  pub left : List Turn
  pub in_order : turns ≡ before ++ turn ∷ left
  pub said_before : List Saying
  pub are_whole : AreWhole before said_before
  pub part : List Saying
  pub stop : Stop
  pub cut_short : IsCutShort turn part stop
  pub cut : List Saying
  pub cuts : letters_said cut ≡ cut_behind part
  pub all : xs ≡ (said_before ++ part) ++ cut
  pub why : Stops (closes (receives (said_before ++ part) + 1)) turn old (frames_read (said_before ++ part)) (frames_given (said_before ++ part)) stop new

-- the gate has let each record pass that was posted, by its number
abbrev pub AreLetPass : (has_let : ℕ → Type 0) → List Saying → Type 0
AreLetPass has_let xs = HasLet has_let (receives xs)

-- a link took its turns, or stopped
abbrev pub LinkRan : (closes : ℕ → Bool) → List Turn → WireView → List Saying → WireView → Type 0
LinkRan closes turns old xs new = IsThrough turns old xs new ⊎ IsStopped closes turns old xs new
