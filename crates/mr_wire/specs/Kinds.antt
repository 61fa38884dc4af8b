-- kinds of frames and their bytes
use Rattle.std.specs.Prelude.{ℕ, not, ◌==◌, ◌&&◌, if◌then◌else◌, Option, Some, None}
use Rattle.mr_wire.specs.declared.kind.Kind.{Kind}
use Rattle.mr_wire.specs.declared.kind.Kind.TheVariants.{Ask, Start, Item, MoveOut, Held, Know, End, Receipt}

abbrev pub kind_byte : Kind → ℕ
kind_byte Ask = 0
kind_byte Start = 1
kind_byte Item = 2
kind_byte MoveOut = 3
kind_byte Held = 4
kind_byte Know = 5
kind_byte End = 6
kind_byte Receipt = 7

-- the kind of a byte: format 1 has no receipts
abbrev pub kind_of_byte : ℕ → ℕ → Option Kind
kind_of_byte format byte =
    if byte == 0 then Some Ask
    else (if byte == 1 then Some Start
    else (if byte == 2 then Some Item
    else (if byte == 3 then Some MoveOut
    else (if byte == 4 then Some Held
    else (if byte == 5 then Some Know
    else (if byte == 6 then Some End
    else (if byte == 7 && not (format == 1) then Some Receipt
    else None)))))))
