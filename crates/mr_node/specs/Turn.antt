-- how a turn goes, letter by letter, and how it may be cut short
use Rattle.std.specs.Prelude.{◌≡◌, ◌++◌, ◌==◌, ℕ, Bool, true, false, cond, List, [], ◌∷◌, length, Some, Err, IsOk}
use Rattle.std.specs.List.{slice_get}
use Rattle.mr_version.specs.Name.{Name}
use Rattle.mr_wire.specs.Frames.{Question}
use Rattle.mr_wire.specs.declared.frame.Frame.{Frame}
use Rattle.mr_wire.specs.declared.frame.Frame.TheVariants as frame
use Rattle.mr_wire.specs.declared.frame.Receipt.{Receipt}
use Rattle.mr_replica.specs.declared.event.Event.{Event}
use Rattle.mr_replica.specs.declared.event.Event.TheVariants.{Pull, Receive, Answer, Next, Vouch, Release}
use Rattle.mr_replica.specs.declared.refusal.Refusal.{Refusal}
use Rattle.mr_threads.specs.Exchange.{said}
use Rattle.mr_node.specs.Saying.{Saying, answer_frame, are_over, opened_by, opened_behind, cut_of}
use Rattle.mr_node.specs.declared.turn.Turn.{Turn}
use Rattle.mr_node.specs.declared.turn.Turn.TheVariants as turn
use Rattle.mr_node.specs.declared.turn.Stop.{Stop}
use Rattle.mr_node.specs.declared.turn.Stop.TheVariants.{Refused, NotSent, NotReceived, BadFrame, Shut}
use Rattle.mr_node.specs.declared.progress.Opened.TheVariants.{Stream}

-- a letter that the turn makes of a frame
abbrev pub IsMadeOfFrame : Turn → Event → Type 0
IsMadeOfFrame turn.Pull letter = (f : Frame) × (letter ≡ Receive f)
IsMadeOfFrame turn.Serve letter = (ask : Question) × (letter ≡ Answer ask)
IsMadeOfFrame (turn.Grant versions) letter = ⊥
IsMadeOfFrame (turn.Redeem count) letter = (receipt : Receipt) × (letter ≡ Release receipt)

-- The letter that the turn says behind those that it has said. A pull asks, and then takes records. One who serves takes a request, and then asks for the next record of the stream that it opened. Receipts are given version by version, and taken one by one.
abbrev pub SaysNext : Turn → List Saying → Event → Type 0
SaysNext turn.Pull [] letter = letter ≡ Pull
SaysNext turn.Pull (x ∷ xs) letter = IsMadeOfFrame turn.Pull letter
SaysNext turn.Serve [] letter = IsMadeOfFrame turn.Serve letter
SaysNext turn.Serve (x ∷ xs) letter = (stream : ℕ) × (opened_by x.answer ≡ Stream stream) × (letter ≡ Next stream)
SaysNext (turn.Grant versions) xs letter = (v : Name) × (slice_get versions.items (length xs) ≡ Some v) × (letter ≡ Vouch v)
SaysNext (turn.Redeem count) xs letter = IsMadeOfFrame (turn.Redeem count) letter

-- whether a turn that has said these has no more to say
abbrev pub is_done : Turn → List Saying → Bool
is_done turn.Pull xs = are_over xs
is_done turn.Serve xs = are_over xs
is_done (turn.Grant versions) xs = length xs == length versions.items
is_done (turn.Redeem count) xs = length xs == count

-- whether it is a frame that the turn reads next, if it goes on
abbrev pub is_reading : Turn → List Saying → Bool
is_reading turn.Pull [] = false
is_reading turn.Pull (x ∷ xs) = true
is_reading turn.Serve [] = true
is_reading turn.Serve (x ∷ xs) = false
is_reading (turn.Grant versions) xs = false
is_reading (turn.Redeem count) xs = true

-- whether the turn makes a letter of such a frame
abbrev pub reads : Turn → Frame → Bool
reads turn.Pull f = true
reads turn.Serve (frame.Ask ask) = true
reads (turn.Redeem count) (frame.Receipt receipt) = true
reads t f = false

-- Behind the letters before them, these are what the turn says, one by one, and none of them was refused.
abbrev pub IsOrderly : Turn → (before : List Saying) → List Saying → Type 0
IsOrderly t before [] = Unit {0}
IsOrderly t before (x ∷ xs) = (is_done t before ≡ false) × SaysNext t before x.letter × IsOk x.answer × IsOrderly t (before ++ x ∷ []) xs

-- a whole turn
pub record IsWhole (t : Turn) (xs : List Saying) : Type 0 where
  pub orderly : IsOrderly t [] xs
  pub done : is_done t xs ≡ true

-- a whole turn for each, one behind the other
abbrev pub AreWhole : List Turn → List Saying → Type 0
AreWhole [] xs = xs ≡ []
AreWhole (t ∷ ts) xs = (ys : List Saying) × (zs : List Saying) × (xs ≡ ys ++ zs) × IsWhole t ys × AreWhole ts zs

-- the last letter was refused
pub record IsRefusedLast (t : Turn) (xs : List Saying) : Type 0 where
  pub before : List Saying
  pub letter : Event
  pub refusal : Refusal
  pub all : xs ≡ before ++ said letter (Err refusal) ∷ []
  pub orderly : IsOrderly t [] before
  pub undone : is_done t before ≡ false
  pub next : SaysNext t before letter

-- the last letter's answer gave a frame, which is the one that was not sent
pub record IsUnsentLast (t : Turn) (xs : List Saying) : Type 0 where
  pub before : List Saying
  pub last : Saying
  pub all : xs ≡ before ++ last ∷ []
  pub orderly : IsOrderly t [] xs
  pub frame : Frame
  pub gives : answer_frame last.answer ≡ frame ∷ []

-- the turn had to read a frame
pub record IsReading (t : Turn) (xs : List Saying) : Type 0 where
  pub orderly : IsOrderly t [] xs
  pub undone : is_done t xs ≡ false
  pub reading : is_reading t xs ≡ true

-- what a turn has said as it stops for this reason
abbrev pub IsCutShort : Turn → List Saying → Stop → Type 0
IsCutShort t xs Refused = IsRefusedLast t xs
IsCutShort t xs NotSent = IsUnsentLast t xs
IsCutShort t xs NotReceived = IsReading t xs
IsCutShort t xs BadFrame = IsReading t xs
IsCutShort t xs Shut = IsReading t xs

-- the letter that closes what the turn has open, if it has anything open: what its first letter opened, where the stream's last record has not come
abbrev pub cut_behind : List Saying → List Event
cut_behind xs = cond (are_over xs) [] (cut_of (opened_behind xs))
