-- what passes a link, piece by piece
use Rattle.std.specs.Prelude.{◌≡◌, ℕ, [], Some, None, Result, Ok, Err}
use Rattle.std.specs.Global.{Vec}
use Rattle.mr_link.specs.declared.wire.Wire.{Wire}
use Rattle.mr_link.specs.declared.snag.Snag.{Snag}
use Rattle.mr_link.specs.declared.snag.Snag.TheVariants.{OutOfMemory, LinkDown, BadFrame, TooLong}
use Rattle.mr_link.specs.Wire.{WireView, unread_in, PassesWell, GoesDown}

-- what comes of receiving more bytes
abbrev pub ReadsPiece : WireView → Result (Unit {0}) Snag → WireView → Type 0
ReadsPiece old (Ok _) new = PassesWell old [] [] new
ReadsPiece old (Err LinkDown) new = GoesDown old [] [] new
ReadsPiece old (Err OutOfMemory) new = PassesWell old [] [] new
ReadsPiece old (Err BadFrame) new = ⊥
ReadsPiece old (Err TooLong) new = ⊥

-- the reader has what it had, and nothing is held
pub record HandsNothing {L : Type 0} (old new : Wire L) : Type 0 where
  pub reader : new.reader ≡ old.reader
  pub held : new.held ≡ None

-- the piece is behind what was unread
pub record HandsOn {L : Type 0} (old : Wire L) (piece : Vec ℕ) (new : Wire L) : Type 0 where
  pub link : new.link ≡ old.link
  pub unread : unread_in new.reader new.held ≡ unread_in old.reader (Some piece)

-- what comes of handing a piece to the reader
abbrev pub Hands : {L : Type 0} → Wire L → Vec ℕ → Result (Unit {0}) Snag → Wire L → Type 0
Hands old piece (Ok _) new = HandsOn old piece new
Hands old piece (Err OutOfMemory) new = HandsOn old piece new
Hands old piece (Err LinkDown) new = ⊥
Hands old piece (Err BadFrame) new = ⊥
Hands old piece (Err TooLong) new = ⊥
