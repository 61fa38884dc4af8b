-- kinds of messages: their bytes, and how long a message of each may be
use Rattle.std.specs.Prelude.{ℕ, ◌==◌, if◌then◌else◌, Option, Some, None}
use Rattle.mr_talk.specs.declared.kind.Kind.{Kind}
use Rattle.mr_talk.specs.declared.kind.Kind.TheVariants.{Hello, Idle, Ask, Begin, Piece, End, Missing, Records, Wants, PushOuts, Receipts, Turn, Done, Fault, Whole}
use Rattle.mr_talk.specs.declared.kind.TheConstants.{HELLO_BYTES, MAX_FRAMES_BYTES, MAX_PACKED_BYTES, MAX_LIST_BYTES, MAX_PIECE_BYTES, MAX_FAULT_BYTES}

abbrev pub kind_byte : Kind → ℕ
kind_byte Hello = 1
kind_byte Idle = 2
kind_byte Ask = 3
kind_byte Begin = 4
kind_byte Piece = 5
kind_byte End = 6
kind_byte Missing = 7
kind_byte Records = 8
kind_byte Wants = 9
kind_byte PushOuts = 10
kind_byte Receipts = 11
kind_byte Turn = 12
kind_byte Done = 13
kind_byte Fault = 14
kind_byte Whole = 15

-- the kind of a byte
abbrev pub kind_of_byte : ℕ → Option Kind
kind_of_byte byte =
    if byte == 1 then Some Hello
    else (if byte == 2 then Some Idle
    else (if byte == 3 then Some Ask
    else (if byte == 4 then Some Begin
    else (if byte == 5 then Some Piece
    else (if byte == 6 then Some End
    else (if byte == 7 then Some Missing
    else (if byte == 8 then Some Records
    else (if byte == 9 then Some Wants
    else (if byte == 10 then Some PushOuts
    else (if byte == 11 then Some Receipts
    else (if byte == 12 then Some Turn
    else (if byte == 13 then Some Done
    else (if byte == 14 then Some Fault
    else (if byte == 15 then Some Whole
    else None))))))))))))))

-- the most bytes of a message of this kind
abbrev pub limit_of : Kind → ℕ
limit_of Hello = HELLO_BYTES
limit_of Idle = HELLO_BYTES
limit_of Ask = MAX_FRAMES_BYTES
limit_of Begin = 40
limit_of Piece = MAX_PIECE_BYTES
limit_of End = 0
limit_of Missing = 32
limit_of Records = MAX_PACKED_BYTES
limit_of Wants = MAX_LIST_BYTES
limit_of PushOuts = MAX_LIST_BYTES
limit_of Receipts = MAX_FRAMES_BYTES
limit_of Turn = 0
limit_of Done = 16
limit_of Fault = MAX_FAULT_BYTES
limit_of Whole = MAX_PIECE_BYTES
