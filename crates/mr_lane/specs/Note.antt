-- senders, and what each sent among notes of all
use Rattle.std.specs.Prelude.{ℕ, ◌==◌, cond, List, [], ◌∷◌}
use Rattle.mr_lane.specs.declared.piece.Piece.{Piece}
use Rattle.mr_lane.specs.declared.note.Sender.{Sender}
use Rattle.mr_lane.specs.declared.note.Sender.TheVariants.{User, FirstLink, SecondLink}
use Rattle.mr_lane.specs.declared.note.Note.{Note}

abbrev pub sender_number : Sender → ℕ
sender_number User = 0
sender_number FirstLink = 1
sender_number SecondLink = 2

-- the pieces of the sender with this number, in order
abbrev pub pieces_by : {T : Type 0} → ℕ → List (Note T) → List (Piece T)
pieces_by number [] = []
pieces_by number (note ∷ notes) = cond (number == sender_number note.sender) (note.piece ∷ pieces_by number notes) (pieces_by number notes)
