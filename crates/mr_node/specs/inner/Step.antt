-- what the parts of a turn do
use Rattle.std.specs.Prelude.{◌≡◌, ◌+◌, ◌++◌, ℕ, Bool, true, false, List, [], ◌∷◌, Option, Some, None, Result, Ok, Err, IsOk}
use Rattle.mr_wire.specs.declared.frame.Frame.{Frame}
use Rattle.mr_link.specs.Wire.{WireView, PassesWell, GoesDown}
use Rattle.mr_link.specs.declared.snag.Snag.{Snag}
use Rattle.mr_link.specs.declared.snag.Snag.TheVariants as snag
use Rattle.mr_replica.specs.declared.event.Event.{Event}
use Rattle.mr_replica.specs.declared.event.Reply.{Reply}
use Rattle.mr_replica.specs.declared.refusal.Refusal.{Refusal}
use Rattle.mr_threads.specs.Exchange.{letters_said}
use Rattle.mr_threads.specs.Talk.{Says}
use Rattle.mr_threads.specs.declared.talk.Talk.{Talk}
use Rattle.mr_threads.specs.declared.talk.Halt.{Halt}
use Rattle.mr_threads.specs.declared.talk.Halt.TheVariants as halt
use Rattle.mr_node.specs.Saying.{Saying, letter_frame, answer_frame, frames_read, frames_given, one_if_receive, receives}
use Rattle.mr_node.specs.inner.Saying.{IsLetPass}
use Rattle.mr_node.specs.Turn.{IsMadeOfFrame, SaysNext, is_done, is_reading, IsWhole, IsCutShort, cut_behind}
use Rattle.mr_node.specs.inner.Turn.{IsAt, progress_of}
use Rattle.mr_node.specs.Stop.{Stops}
use Rattle.mr_node.specs.declared.turn.Turn.{Turn}
use Rattle.mr_node.specs.declared.turn.Stop.{Stop}
use Rattle.mr_node.specs.declared.turn.Stop.TheVariants.{Refused, NotSent, NotReceived, BadFrame}
use Rattle.mr_node.specs.declared.progress.Progress.{Progress}
use Rattle.mr_node.specs.declared.next_move.Move.{Move}
use Rattle.mr_node.specs.declared.next_move.Move.TheVariants as move
use Rattle.mr_node.specs.declared.turning.Step.{Step}
use Rattle.mr_node.specs.declared.turning.Step.TheVariants as step

-- whether it is a reason why a frame was not posted
abbrev pub IsUnposted : Stop → Type 0
IsUnposted Refused = ⊥
IsUnposted NotSent = ⊥
IsUnposted why = Unit {0}

-- a record that is to be posted was let pass
abbrev pub LetsMove : (has_let : Type 0) → Move → Type 0
LetsMove has_let (move.Say letter) = IsLetPass has_let letter
LetsMove has_let m = Unit {0}

-- a frame was read, and a letter made of it; or why there is none
abbrev pub Fetches : (may_close : Bool) → Turn → WireView → Move → WireView → Type 0
Fetches may_close t old (move.Say letter) new = IsMadeOfFrame t letter × PassesWell old (letter_frame letter) [] new
Fetches may_close t old move.Done new = ⊥
Fetches may_close t old (move.Stop why) new = IsUnposted why × Stops may_close t old [] [] why new

-- what it means that no frame came: of the snags that a read may have; it has no frame too long
abbrev pub unread : Snag → Result Move Halt
unread snag.OutOfMemory = Err halt.OutOfMemory
unread snag.LinkDown = Ok (move.Stop NotReceived)
unread snag.BadFrame = Ok (move.Stop BadFrame)
unread snag.TooLong = Err halt.OutOfMemory

-- the next letter of a turn that has said these; or that it has no more to say, or why it stops
abbrev pub Moves : (may_close : Bool) → Turn → List Saying → WireView → Move → WireView → Type 0
Moves may_close t xs old (move.Say letter) new = (is_done t xs ≡ false) × SaysNext t xs letter × PassesWell old (letter_frame letter) [] new
Moves may_close t xs old move.Done new = (is_done t xs ≡ true) × (new ≡ old)
Moves may_close t xs old (move.Stop why) new = (is_done t xs ≡ false) × (is_reading t xs ≡ true) × IsUnposted why × Stops may_close t old [] [] why new

-- whatever was said before, a letter was made of the frames that were read
abbrev pub ReadsLetter : WireView → Move → WireView → Type 0
ReadsLetter old (move.Say letter) new = PassesWell old (letter_frame letter) [] new
ReadsLetter old move.Done new = Unit {0}
ReadsLetter old (move.Stop why) new = Unit {0}

-- what comes of sending what a reply gives
abbrev pub WritesAll : WireView → List Frame → Result (Unit {0}) Snag → WireView → Type 0
WritesAll old given (Ok _) new = PassesWell old [] given new
WritesAll old given (Err snag.LinkDown) new = (f : Frame) × (given ≡ f ∷ []) × GoesDown old [] [] new
WritesAll old given (Err snag.BadFrame) new = ⊥
WritesAll old given (Err snag.OutOfMemory) new = Unit {0}
WritesAll old given (Err snag.TooLong) new = Unit {0}

-- what it means that no frame was sent: of the snags that a send may have; it has no bad frame
abbrev pub unsent : Snag → Result (Option Stop) Halt
unsent snag.LinkDown = Ok (Some NotSent)
unsent snag.OutOfMemory = Err halt.OutOfMemory
unsent snag.BadFrame = Err halt.OutOfMemory
unsent snag.TooLong = Err halt.OutOfMemory

-- what came of a letter that was answered so
abbrev pub ComesOf : WireView → Result Reply Refusal → Option Stop → WireView → Type 0
ComesOf old answer None new = IsOk answer × PassesWell old [] (answer_frame answer) new
ComesOf old answer (Some Refused) new = (e : Refusal) × (answer ≡ Err e) × (new ≡ old)
ComesOf old answer (Some NotSent) new = IsOk answer × ((f : Frame) × (answer_frame answer ≡ f ∷ []) × GoesDown old [] [] new)
ComesOf old answer (Some why) new = ⊥

module _ {R : Type 0} where
  -- one letter more was said, its answer heard and its frame sent; or nothing, since the turn has no more to say; or the turn stops
  abbrev pub Steps : (closes : ℕ → Bool) → Turn → List Saying → Talk Event (Result Reply Refusal) R → WireView → ℕ → Step → Talk Event (Result Reply Refusal) R → WireView → ℕ → Progress → Type 0
  Steps closes t xs talk wire posted step.More talk' wire' posted' progress' =
      (x : Saying) × IsAt t (xs ++ x ∷ []) progress' × Says talk (x ∷ []) talk' × PassesWell wire (letter_frame x.letter) (answer_frame x.answer) wire' × (posted' ≡ posted + one_if_receive x.letter)
  Steps closes t xs talk wire posted step.Done talk' wire' posted' progress' =
      IsWhole t xs × (talk' ≡ talk) × (wire' ≡ wire) × (posted' ≡ posted)
  Steps closes t xs talk wire posted (step.Stop why) talk' wire' posted' progress' =
      (ys : List Saying) × IsCutShort t (xs ++ ys) why × Says talk ys talk' × Stops (closes (posted' + 1)) t wire (frames_read ys) (frames_given ys) why wire' × (posted' ≡ posted + receives ys) × (progress' ≡ progress_of (xs ++ ys))

  -- what a turn has said so far, of a link that had posted so many Receives before it
  pub record SaysSoFar (t : Turn) (talk : Talk Event (Result Reply Refusal) R) (wire : WireView) (posted : ℕ) (talk' : Talk Event (Result Reply Refusal) R) (wire' : WireView) (posted' : ℕ) (progress' : Progress) : Type 0 where
    pub said : List Saying
    pub at : IsAt t said progress'
    pub says : Says talk said talk'
    pub passes : PassesWell wire (frames_read said) (frames_given said) wire'
    pub counted : posted' ≡ posted + receives said

  -- a whole turn was said
  pub record SaysWhole (t : Turn) (talk : Talk Event (Result Reply Refusal) R) (wire : WireView) (posted : ℕ) (talk' : Talk Event (Result Reply Refusal) R) (wire' : WireView) (posted' : ℕ) : Type 0 where
    pub said : List Saying
    pub whole : IsWhole t said
    pub says : Says talk said talk'
    pub passes : PassesWell wire (frames_read said) (frames_given said) wire'
    pub counted : posted' ≡ posted + receives said

  -- a turn was said as far as it came, and nothing behind it
  pub record SaysPart (closes : ℕ → Bool) (t : Turn) (stop : Stop) (talk : Talk Event (Result Reply Refusal) R) (wire : WireView) (posted : ℕ) (talk' : Talk Event (Result Reply Refusal) R) (wire' : WireView) (posted' : ℕ) (progress' : Progress) : Type 0 where
    pub said : List Saying
    pub cut_short : IsCutShort t said stop
    pub says : Says talk said talk'
    pub why : Stops (closes (posted' + 1)) t wire (frames_read said) (frames_given said) stop wire'
    pub counted : posted' ≡ posted + receives said
    pub progress : progress' ≡ progress_of said

  -- a turn was said as far as it came, and then what it had open was cut
  pub record SaysCut (closes : ℕ → Bool) (t : Turn) (stop : Stop) (talk : Talk Event (Result Reply Refusal) R) (wire : WireView) (posted : ℕ) (talk' : Talk Event (Result Reply Refusal) R) (wire' : WireView) (posted' : ℕ) : Type 0 where
    pub said : List Saying
    pub cut_short : IsCutShort t said stop
    pub cut : List Saying
    pub cuts : letters_said cut ≡ cut_behind said
    pub says : Says talk (said ++ cut) talk'
    pub why : Stops (closes (posted' + 1)) t wire (frames_read said) (frames_given said) stop wire'
    pub counted : posted' ≡ posted + receives said

  -- what a turn comes to, before its cut
  abbrev pub TurnGoes : (closes : ℕ → Bool) → Turn → Option Stop → Talk Event (Result Reply Refusal) R → WireView → ℕ → Talk Event (Result Reply Refusal) R → WireView → ℕ → Progress → Type 0
  TurnGoes closes t None talk wire posted talk' wire' posted' progress' = SaysWhole t talk wire posted talk' wire' posted'
  TurnGoes closes t (Some stop) talk wire posted talk' wire' posted' progress' = SaysPart closes t stop talk wire posted talk' wire' posted' progress'

  -- what a turn comes to, with its cut
  abbrev pub TurnRan : (closes : ℕ → Bool) → Turn → Option Stop → Talk Event (Result Reply Refusal) R → WireView → ℕ → Talk Event (Result Reply Refusal) R → WireView → ℕ → Type 0
  TurnRan closes t None talk wire posted talk' wire' posted' = SaysWhole t talk wire posted talk' wire' posted'
  TurnRan closes t (Some stop) talk wire posted talk' wire' posted' = SaysCut closes t stop talk wire posted talk' wire' posted'
