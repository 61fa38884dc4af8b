-- the letters among notes of all senders, and those of one
use Rattle.std.specs.Prelude.{◌==◌, cond, List, [], ◌∷◌, ◌++◌}
use Rattle.mr_lane.specs.declared.piece.Piece.{Piece}
use Rattle.mr_lane.specs.declared.piece.Piece.TheVariants.{Item, End}
use Rattle.mr_lane.specs.declared.note.Sender.{Sender}
use Rattle.mr_lane.specs.declared.note.Note.{Note}
use Rattle.mr_lane.specs.Note.{sender_number}

module _ {T : Type 0} where
  abbrev pub letter_in : Sender → Piece T → List (Sender × T)
  letter_in sender (Item x) = (sender, x) ∷ []
  letter_in sender End = []

  -- the letters among notes, each with its sender
  abbrev pub letters_in : List (Note T) → List (Sender × T)
  letters_in [] = []
  letters_in (note ∷ notes) = letter_in note.sender note.piece ++ letters_in notes

  -- the letters of one sender, in order
  abbrev pub letters_by : Sender → List (Sender × T) → List T
  letters_by sender [] = []
  letters_by sender (x ∷ xs) = cond (sender_number sender == sender_number x.0) (x.1 ∷ letters_by sender xs) (letters_by sender xs)
