-- what stands behind the kind of a frame, as it is read
use Rattle.std.specs.Prelude.{ℕ, Bool, ◌==◌, nat_le, if◌then◌else◌, Option, Some, None}
use Rattle.std.specs.Int.{w8, w32, w64}
use Rattle.mr_version.specs.Name.{Name}
use Rattle.mr_mail.specs.Mail.{Mail}
use Rattle.mr_madewith.specs.Revision.{Rev}
use Rattle.mr_wire.specs.declared.frame.Mode.{Mode}
use Rattle.mr_wire.specs.declared.frame.Mode.TheVariants.{Partial, Full}
use Rattle.mr_wire.specs.declared.frame.Header.{Header}
use Rattle.mr_wire.specs.declared.frame.Body.{Body}
use Rattle.mr_wire.specs.declared.frame.Body.TheVariants as body
use Rattle.mr_wire.specs.declared.frame.Receipt.{Receipt}
use Rattle.mr_wire.specs.declared.frame.Frame.{Frame}
use Rattle.mr_wire.specs.declared.frame.Frame.TheVariants as frame
use Rattle.mr_wire.specs.declared.kind.Kind.{Kind}
use Rattle.mr_wire.specs.declared.kind.Kind.TheVariants as kind
use Rattle.mr_wire.specs.Values.{DescentParts, Piece, least_item}
use Rattle.mr_wire.specs.Frames.{Sent, Question, least_follows}
use Rattle.mr_wire.specs.Reading.{Reader, number_at, only_at, as_at, then_at, counted_at, run_at}
use Rattle.mr_wire.specs.Parts.{author_at, vector_at, descent_at, filter_at, message_at, fragment_at}

abbrev pub rev_with : DescentParts → Mail → Rev
rev_with descent message = record { item = descent.item; version = descent.version; below = descent.below; message = message }

-- a revision: a version of an item, and its message
abbrev pub revision_at : Reader Rev
revision_at = as_at (λ p. rev_with p.0 p.1) (then_at descent_at (λ _. message_at))

-- the number of a stream or a session: 1 or more
abbrev pub serial_at : Reader ℕ
serial_at = only_at (λ n. nat_le 1 n) (number_at w64)

abbrev pub header_at : Reader Header
header_at =
    as_at (λ p. record { source = p.0; stream = p.1.0; target = p.1.1.0; session = p.1.1.1.0; index = p.1.1.1.1 })
    (then_at author_at (λ _. then_at serial_at (λ _. then_at author_at (λ _. then_at serial_at (λ _. number_at w32)))))

abbrev pub mode_of : ℕ → Mode
mode_of n = if n == 0 then Partial else Full

-- 0 partial, 1 full
abbrev pub mode_at : Reader Mode
mode_at = as_at mode_of (only_at (λ n. nat_le n 1) (number_at w8))

-- a fragment that may follow the one before it
abbrev pub asked_at : Option (Option Name) → Reader Piece
asked_at before = only_at (λ piece. least_follows before (least_item piece.items)) fragment_at

abbrev pub next_asked : Option (Option Name) → Piece → Option (Option Name)
next_asked _ piece = Some (least_item piece.items)

abbrev pub ask_at : Reader Question
ask_at =
    as_at (λ p. record { target = p.0; session = p.1.0; filter = p.1.1.0; fragments = p.1.1.1 })
    (then_at author_at (λ _. then_at serial_at (λ _. then_at filter_at (λ _. counted_at (number_at w32) (run_at asked_at next_asked None)))))

abbrev pub receipt_at : Reader Receipt
receipt_at = as_at (λ p. record { giver = p.0; descent = p.1 }) (then_at author_at (λ _. descent_at))

-- what a record of this kind says
abbrev pub body_at : Kind → Reader Body
body_at kind.Start = as_at body.Start mode_at
body_at kind.Item = as_at body.Item revision_at
body_at kind.MoveOut = as_at body.MoveOut descent_at
body_at kind.Held = as_at body.Held vector_at
body_at kind.Know = as_at body.Know fragment_at
body_at kind.End = λ bytes. Some (body.End, bytes)
body_at kind.Ask = λ bytes. None
body_at kind.Receipt = λ bytes. None

-- whether a record of this kind may have the index: 0 for a Start, and from 1 for the others
abbrev pub index_fits : Kind → ℕ → Bool
index_fits kind.Start index = index == 0
index_fits kind.Item index = nat_le 1 index
index_fits kind.MoveOut index = nat_le 1 index
index_fits kind.Held index = nat_le 1 index
index_fits kind.Know index = nat_le 1 index
index_fits kind.End index = nat_le 1 index
index_fits kind.Ask index = nat_le 1 index
index_fits kind.Receipt index = nat_le 1 index

abbrev pub record_at : Kind → Reader Sent
record_at kind = as_at (λ p. record { header = p.0; body = p.1 }) (then_at (only_at (λ header. index_fits kind header.index) header_at) (λ _. body_at kind))

-- what stands behind the kind
abbrev pub frame_at : Kind → Reader Frame
frame_at kind.Ask = as_at frame.Ask ask_at
frame_at kind.Receipt = as_at frame.Receipt receipt_at
frame_at kind.Start = as_at frame.Record (record_at kind.Start)
frame_at kind.Item = as_at frame.Record (record_at kind.Item)
frame_at kind.MoveOut = as_at frame.Record (record_at kind.MoveOut)
frame_at kind.Held = as_at frame.Record (record_at kind.Held)
frame_at kind.Know = as_at frame.Record (record_at kind.Know)
frame_at kind.End = as_at frame.Record (record_at kind.End)
