-- worked rows: what the definitions give for small values
use Rattle.std.specs.Prelude.{◌≡◌, ℕ, true, false, List, [], ◌∷◌, ◌++◌, map, length, count_by, replicate, Some, None, Ok, Err, refl}
use Rattle.mr_talk.specs.declared.kind.Kind.{Kind}
use Rattle.mr_talk.specs.declared.kind.Kind.TheVariants.{Hello, Idle, Ask, Begin, Piece, End, Missing, Records, Wants, PushOuts, Receipts, Turn as Passes, Done, Fault, Whole}
use Rattle.mr_talk.specs.declared.kind.TheConstants.{HELLO_BYTES, MAX_FRAMES_BYTES, MAX_PACKED_BYTES, MAX_LIST_BYTES, MAX_PIECE_BYTES, MAX_FAULT_BYTES}
use Rattle.std.proofs.Common.{ap, inl, inr, lit≤, lit<}
use Rattle.mr_talk.specs.declared.fault.LineFault.TheVariants.{Message, Write}
use Rattle.mr_talk.specs.declared.fault.MessageFault.TheVariants.{OutOfMemory, Truncated, BadKind, TooLong, Failed}
use Rattle.mr_talk.specs.declared.talk_fault.TalkFault.TheVariants as talk
use Rattle.mr_talk.specs.declared.hello.Hello as hello
use Rattle.mr_talk.specs.declared.hello.HelloFault.TheVariants as hello_fault
use Rattle.mr_talk.specs.declared.turn.Role.TheVariants.{Caller, Called}
use Rattle.mr_talk.specs.declared.turn.Turn.TheVariants.{CallerGreets, CalledGreets, CalledAsks, CalledPasses, CallerAsks, CallerTells, CallerTellsFile, CalledTells, CallerSettles, CallerWants, CalledSettles, CalledCloses, CallerCloses, Over}
use Rattle.mr_talk.specs.declared.turn.Turn.TheVariants as turn
use Rattle.mr_talk.specs.Fault.{talk_fault_number, told_number}
use Rattle.mr_talk.specs.Kinds.{kind_of_byte}
use Rattle.mr_talk.specs.Said.{Said, IsMessage, message_bytes}
use Rattle.mr_talk.specs.Messages.{decoded}
use Rattle.mr_talk.specs.Reader.{Feeds, Nexts, ending}
use Rattle.mr_talk.specs.Hello.{hello_bytes}
use Rattle.mr_talk.specs.Host.{Closes, Gives, Greets, Keeps, KeepsFiles, Listens, Plays, Speaks, Takes, nobody, passes}
use Rattle.mr_talk.specs.Turns.{sender_of, number_of, next_of, IsTalk, Leads}
use Rattle.mr_talk.specs.Talk.{Talked, BrokeOff, IsCause, Heard}
use Rattle.mr_talk.specs.Packed as packed
use Rattle.mr_talk.specs.Packed.{Copy, Digits, IsBlamed, Literal, Move, Unpacks, begun, spell}
use Rattle.mr_talk.specs.declared.packed.PackedFault.TheVariants.{BadToken}
use Rattle.mr_talk.specs.World.{start, Sends, Receives, happens, after, ends_turn}

-- ---- limits

pub hello_bytes_are : HELLO_BYTES ≡ 44
hello_bytes_are = refl

pub frames_bytes_are : MAX_FRAMES_BYTES ≡ 8388612
frames_bytes_are = refl

pub packed_bytes_are : MAX_PACKED_BYTES ≡ 8388618
packed_bytes_are = refl

pub list_bytes_are : MAX_LIST_BYTES ≡ 2097152
list_bytes_are = refl

pub piece_bytes_are : MAX_PIECE_BYTES ≡ 65536
piece_bytes_are = refl

pub fault_bytes_are : MAX_FAULT_BYTES ≡ 1024
fault_bytes_are = refl

-- ---- messages

-- the wants of no file, and a fault of two bytes
abbrev wants : Said
wants = record { kind = Wants; bytes = [] }

abbrev fault : Said
fault = record { kind = Fault; bytes = 7 ∷ 8 ∷ [] }

pub wants_bytes : message_bytes wants ≡ 9 ∷ 0 ∷ 0 ∷ 0 ∷ 0 ∷ []
wants_bytes = refl

pub fault_bytes : message_bytes fault ≡ 14 ∷ 0 ∷ 0 ∷ 0 ∷ 2 ∷ 7 ∷ 8 ∷ []
fault_bytes = refl

-- a message is decoded with what follows it left alone
pub decodes_fault : decoded (14 ∷ 0 ∷ 0 ∷ 0 ∷ 2 ∷ 7 ∷ 8 ∷ 9 ∷ []) ≡ Ok (fault, 7)
decodes_fault = refl

-- there are no kinds 0 and 16, which is told by the first byte
pub kinds_end : map kind_of_byte (0 ∷ 1 ∷ 14 ∷ 15 ∷ 16 ∷ []) ≡ None ∷ Some Hello ∷ Some Fault ∷ Some Whole ∷ None ∷ []
kinds_end = refl

pub bad_kind : decoded (16 ∷ []) ≡ Err BadKind
bad_kind = refl

-- a turn has no bytes, so one that promises some is too long before they are there, and not before its length is
pub too_long : decoded (12 ∷ 0 ∷ 0 ∷ 0 ∷ 1 ∷ []) ≡ Err TooLong
too_long = refl

pub no_length_yet : decoded (12 ∷ 0 ∷ 0 ∷ 0 ∷ []) ≡ Err Truncated
no_length_yet = refl

pub no_bytes_yet : decoded (14 ∷ 0 ∷ 0 ∷ 0 ∷ 2 ∷ 7 ∷ []) ≡ Err Truncated
no_bytes_yet = refl

-- nothing is truncated
pub nothing_yet : decoded [] ≡ Err Truncated
nothing_yet = refl

-- ---- a reader

pub feeds_behind : Feeds (Some (12 ∷ [])) (0 ∷ 0 ∷ []) (Ok tt) (Some (12 ∷ 0 ∷ 0 ∷ []))
feeds_behind = refl

pub next_fault : Nexts (Some (16 ∷ [])) (Err BadKind) None
next_fault = (refl, refl)

pub endings : map ending (Some [] ∷ Some (12 ∷ []) ∷ None ∷ []) ≡ Ok tt ∷ Err Truncated ∷ Err Failed ∷ []
endings = refl

-- ---- a hello

abbrev row : hello.Hello
row = record { id = 7; birth = replicate 16 1; knows = replicate 12 2; tip = replicate 4 9; issued = 258; known = 3; is_waiting = true; keeps_all = false }

pub hello_row : hello_bytes row ≡ 4 ∷ 7 ∷ (replicate 16 1 ++ (replicate 12 2 ++ (9 ∷ 9 ∷ 9 ∷ 9 ∷ 0 ∷ 0 ∷ 1 ∷ 2 ∷ 0 ∷ 0 ∷ 0 ∷ 3 ∷ 1 ∷ 0 ∷ [])))
hello_row = refl

pub hello_long : length (hello_bytes row) ≡ 44
hello_long = refl

-- ---- turns

-- with nothing to tell, a talk is two messages, of 49 bytes each
pub idle : IsTalk (Hello ∷ Idle ∷ [])
idle = (CalledGreets, refl, (Over, refl, refl))

-- in five turns: the called asks; the caller asks and tells two files, one of them whole in a message, and a record; the called tells a record and has nothing open; nor has the caller
abbrev five : List Kind
five = Hello ∷ Hello ∷ Ask ∷ Passes ∷ Ask ∷ Begin ∷ Piece ∷ End ∷ Whole ∷ Records ∷ Passes ∷ Records ∷ Done ∷ Done ∷ []

pub five_is : IsTalk five
five_is = (CalledGreets, refl, (CalledAsks, refl, (CalledPasses, refl, (CallerAsks, refl, (CallerTells, refl, (CallerTellsFile, refl, (CallerTellsFile, refl, (CallerTells, refl, (CallerTells, refl, (CallerTells, refl, (CalledTells, refl, (CalledTells, refl, (CallerWants, refl, (Over, refl, refl))))))))))))))

pub five_turns : count_by ends_turn five ≡ 4
five_turns = refl

-- in seven: each lacks a file of the other's, and both have mail that waits for a receipt
abbrev seven : List Kind
seven = Hello ∷ Hello ∷ Ask ∷ Passes ∷ Ask ∷ Records ∷ PushOuts ∷ Passes ∷ Records ∷ PushOuts ∷ Wants ∷ Passes ∷ Begin ∷ End ∷ Wants ∷ Passes ∷ Missing ∷ Receipts ∷ Done ∷ Receipts ∷ Done ∷ []

pub seven_turns : count_by ends_turn seven ≡ 6
seven_turns = refl

-- the called can't end a talk whose caller has not said that it has nothing open
pub not_alone : next_of CalledSettles Done ≡ Some CallerCloses
not_alone = refl

-- a record is out of place within a file, and so is a second request
pub not_within : next_of CallerTellsFile Records ≡ None
not_within = refl

pub not_twice : next_of CallerTells Ask ≡ None
not_twice = refl

-- a fault ends a talk anywhere, and nothing comes behind it
pub broken : Leads turn.CallerGreets (Hello ∷ Fault ∷ []) turn.Failed
broken = (CalledGreets, refl, (turn.Failed, refl, refl))

pub nothing_more : next_of turn.Failed Fault ≡ None
nothing_more = refl

-- the caller speaks in the odd turns
pub senders : map sender_of (CallerGreets ∷ CalledGreets ∷ CallerTells ∷ CalledTells ∷ CallerSettles ∷ CalledSettles ∷ CallerCloses ∷ Over ∷ []) ≡ Some Caller ∷ Some Called ∷ Some Caller ∷ Some Called ∷ Some Caller ∷ Some Called ∷ Some Caller ∷ None ∷ []
senders = refl

pub numbers : map number_of (CallerGreets ∷ CalledGreets ∷ CallerTells ∷ CalledTells ∷ CallerSettles ∷ CalledSettles ∷ CallerCloses ∷ Over ∷ []) ≡ 1 ∷ 2 ∷ 3 ∷ 4 ∷ 5 ∷ 6 ∷ 7 ∷ 0 ∷ []
numbers = refl

-- ---- both sides

-- The caller's hello is on its way. The called may not speak before it has come.
pub greeted : happens start (Sends Caller Hello) ≡ record { caller = CalledGreets; called = CallerGreets; to_called = Hello ∷ []; to_caller = [] }
greeted = refl

pub waits_for_it : happens (happens start (Sends Caller Hello)) (Sends Called Hello) ≡ happens start (Sends Caller Hello)
waits_for_it = refl

-- with nothing to tell, both are over once both hellos came
pub both_over : after (Sends Caller Hello ∷ Receives Called ∷ Sends Called Idle ∷ Receives Caller ∷ []) start ≡ record { caller = Over; called = Over; to_called = []; to_caller = [] }
both_over = refl

-- ---- a talk as one side has it

abbrev greeting : Said
greeting = record { kind = Hello; bytes = 2 ∷ 7 ∷ [] }

abbrev is_idle : Said
is_idle = record { kind = Idle; bytes = 2 ∷ 8 ∷ [] }

-- with nothing to tell, the caller sends its hello, and the called's comes; the called has it the other way round
pub caller_idle : Talked Caller CallerGreets Over (Some []) (Some (message_bytes greeting)) (Some (message_bytes is_idle)) (Some [])
caller_idle = record { messages = greeting ∷ is_idle ∷ []; runs = (CalledGreets, refl, (Over, refl, refl)); sent = refl; came = refl }

pub called_idle : Talked Called CallerGreets Over (Some []) (Some (message_bytes is_idle)) (Some (message_bytes greeting)) (Some [])
called_idle = record { messages = greeting ∷ is_idle ∷ []; runs = (CalledGreets, refl, (Over, refl, refl)); sent = refl; came = refl }

-- of the caller's hello one byte was written
pub cut_short : BrokeOff Caller (Some []) (Some (1 ∷ [])) (Some [])
cut_short = record {
  messages = greeting ∷ [];
  turn = CalledGreets;
  left = Some [];
  runs = (CalledGreets, refl, refl);
  sent = record { part = 1 ∷ []; more = 0 ∷ 0 ∷ 0 ∷ 2 ∷ 2 ∷ 7 ∷ []; whole = refl; written = refl };
  came = refl;
}

-- what came in the place of the caller's hello
first_heard : (m : Said) → IsMessage m → Heard Called CallerGreets (Ok m) (Some []) (Some []) (Some (message_bytes m ++ [])) (Some [])
first_heard m is = record {
  between = Some (message_bytes m ++ []);
  before = record { messages = []; runs = refl; sent = refl; came = refl };
  sender = refl;
  heard = ([], refl, record { is = is; whole = refl });
}

-- the called was told a fault in its place
pub told_at_once : IsCause (talk.Told (7 ∷ 8 ∷ [])) Called [] (Some []) (Some []) (Some (message_bytes fault ++ [])) (Some [])
told_at_once = (CallerGreets, first_heard fault (lit≤ tt))

-- in its place came the wants of no file
pub out_of_place_at_once : IsCause talk.OutOfPlace Called [] (Some []) (Some []) (Some (message_bytes wants ++ [])) (Some [])
out_of_place_at_once = inl (record { turn = CallerGreets; m = wants; heard = first_heard wants (lit≤ tt); place = refl })

-- in its place came one of two bytes, which has no hello's length
pub bad_hello_at_once : IsCause (talk.Hello hello_fault.Length) Called [] (Some []) (Some []) (Some (message_bytes greeting ++ [])) (Some [])
bad_hello_at_once = record { turn = CallerGreets; next = CalledGreets; m = greeting; heard = first_heard greeting (lit≤ tt); place = refl; kind = inl refl; reads = λ e. absurd cc }

-- ---- what a host is asked

-- A caller's host says its hello and meets the other side. Behind a host that has nothing to tell the turn ends.
pub caller_asks : Speaks nobody CallerGreets (record { kind = Hello; bytes = hello_bytes row }) (Greets None (Ok row) ∷ [])
caller_asks = (row, refl, refl)

pub ends_its_turn : Speaks nobody CallerTells passes (Gives CallerTells (Ok None) ∷ [])
ends_its_turn = inr ([], refl, inl (refl, refl, refl))

pub has_nothing_open : Speaks nobody CalledCloses (record { kind = Done; bytes = 5 ∷ [] }) (Gives CalledCloses (Ok None) ∷ Closes CalledCloses (Ok (Some (5 ∷ []))) ∷ [])
has_nothing_open = inr (_, refl, inr (λ e. absurd cc, (Some (5 ∷ []), refl, refl)))

-- wants are handed over as they come, records once the files are on the disk
pub hands_over : Listens Wants nobody wants (Takes wants (Ok tt) ∷ []) nobody
hands_over = (refl, refl)

abbrev records : Said
records = record { kind = Records; bytes = 7 ∷ [] }

pub hands_records_over : Listens Records nobody records (KeepsFiles (Ok tt) ∷ Takes records (Ok tt) ∷ []) nobody
hands_records_over = (refl, refl)

-- what this side sends is kept before it is sent, and what comes is handed over: the end of the caller's third turn, and wants in the fourth
pub plays_two : Plays Caller nobody CallerTells (passes ∷ wants ∷ []) (Gives CallerTells (Ok None) ∷ Keeps (Ok tt) ∷ Takes wants (Ok tt) ∷ []) nobody
plays_two = (
  _,
  Takes wants (Ok tt) ∷ [],
  nobody,
  refl,
  record { answered = Gives CallerTells (Ok None) ∷ []; speaks = ends_its_turn; kept = refl; same = refl },
  (Takes wants (Ok tt) ∷ [], [], nobody, refl, (refl, refl), (refl, refl)),
)

-- ---- numbers of faults

-- of two bytes, the higher one first
pub told_numbers : map told_number ([] ∷ (1 ∷ []) ∷ (1 ∷ 2 ∷ 104 ∷ []) ∷ []) ≡ None ∷ None ∷ Some 258 ∷ []
told_numbers = refl

pub talk_faults : map talk_fault_number (talk.Line (Message OutOfMemory) ∷ talk.Line Write ∷ talk.OutOfPlace ∷ talk.Told [] ∷ []) ≡ 0 ∷ 7 ∷ 9 ∷ 11 ∷ []
talk_faults = refl

-- ---- packed frames

-- a frame behind nothing: two bytes as they are
pub packed_first : Unpacks [] (65 ∷ 7 ∷ 8 ∷ 0 ∷ []) (7 ∷ 8 ∷ []) (7 ∷ 8 ∷ [])
packed_first = record {
  tokens = Literal (7 ∷ 8 ∷ []) ∷ packed.End ∷ [];
  are = (record { low = lit≤ tt; high = lit≤ tt; short = lit< tt }, (record { low = lit≤ tt; high = lit≤ tt; short = lit< tt }, tt));
  whole = refl;
  spelled = (_, refl, (_, refl, refl));
}

-- one behind another: two bytes of that, another one, and the last of that
pub packed_next : Unpacks (1 ∷ 2 ∷ 3 ∷ 4 ∷ []) (2 ∷ 64 ∷ 9 ∷ 1 ∷ 0 ∷ []) (1 ∷ 2 ∷ 9 ∷ 4 ∷ []) (1 ∷ 2 ∷ 9 ∷ 4 ∷ [])
packed_next = record {
  tokens = Copy 2 ∷ Literal (9 ∷ []) ∷ Copy 1 ∷ packed.End ∷ [];
  are = (
    record { low = lit≤ tt; high = lit≤ tt; short = lit< tt },
    (
      record { low = lit≤ tt; high = lit≤ tt; short = lit< tt },
      (record { low = lit≤ tt; high = lit≤ tt; short = lit< tt }, (record { low = lit≤ tt; high = lit≤ tt; short = lit< tt }, tt)),
    ),
  );
  whole = refl;
  spelled = (_, refl, (_, refl, (_, refl, (_, refl, refl))));
}

-- the byte 175 as its digits, a and f
pub digits_of_a_byte : spell (Digits (175 ∷ [])) (begun [] []) ≡ Some (record { before = []; place = 0; now = 97 ∷ 102 ∷ []; told = [] })
digits_of_a_byte = refl

-- a move by three from the place 2: one of 34 is three on, and 31 none
pub moves_on : spell (Move 34) (record { before = 1 ∷ 2 ∷ 3 ∷ 4 ∷ 5 ∷ 6 ∷ []; place = 2; now = []; told = [] }) ≡ Some (record { before = 1 ∷ 2 ∷ 3 ∷ 4 ∷ 5 ∷ 6 ∷ []; place = 5; now = []; told = [] })
moves_on = refl

-- three bytes of a frame of two are nothing
pub copies_too_much : spell (Copy 3) (begun (1 ∷ 2 ∷ []) []) ≡ None
copies_too_much = refl

-- two bytes as they are, with no end of their frame
pub ends_within_a_frame : IsBlamed BadToken (65 ∷ 7 ∷ 8 ∷ []) (begun [] [])
ends_within_a_frame = record {
  to = packed.says (7 ∷ 8 ∷ []) (begun [] []);
  left = [];
  told = record {
    taken = 65 ∷ 7 ∷ 8 ∷ [];
    whole = refl;
    told = record { tokens = Literal (7 ∷ 8 ∷ []) ∷ []; are = (record { low = lit≤ tt; high = lit≤ tt; short = lit< tt }, tt); whole = refl; spelled = (_, refl, refl) };
  };
  few = lit≤ tt;
  stops = λ t more is e. absurd cc;
  within = λ e after frames same. let none : ◌≡◌ {A = List ℕ} (7 ∷ 8 ∷ []) [] = ap (λ (s : packed.Spelled). s.now) same in absurd cc;
}
