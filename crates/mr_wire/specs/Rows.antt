-- worked rows: what the definitions give for small values
use Rattle.std.specs.Prelude.{◌≡◌, ℕ, true, false, List, [], ◌∷◌, ◌++◌, map, Some, None, Ok, Err, refl, codes}
use Rattle.std.specs.Int.{w16}
use Rattle.std.proofs.Common.{arith}
use Rattle.mr_version.specs.Name.{Name}
use Rattle.mr_concise.specs.declared.vector.AuthorColumn.{AuthorColumn}
use Rattle.mr_wire.specs.declared.fault.WireFault.TheVariants.{Truncated, TooLong, BadFormat, BadKind, BadBody}
use Rattle.mr_wire.specs.declared.frame.Mode.TheVariants.{Partial, Full}
use Rattle.mr_wire.specs.declared.frame.Body.{Body}
use Rattle.mr_wire.specs.declared.frame.Body.TheVariants.{Start, Item, Held, End}
use Rattle.mr_wire.specs.declared.frame.Frame.{Frame}
use Rattle.mr_wire.specs.declared.frame.Frame.TheVariants as frame
use Rattle.mr_wire.specs.declared.kind.Kind.TheVariants as kind
use Rattle.mr_wire.specs.Kinds.{kind_of_byte}
use Rattle.mr_wire.specs.Values.{item_follows, least_item, AreItems}
use Rattle.mr_wire.specs.Frames.{least_follows}
use Rattle.mr_wire.specs.Reading.{number_at, bytes_at, run_at}
use Rattle.mr_wire.specs.Parts.{name_at, labels_at, is_descent}
use Rattle.mr_wire.specs.FrameParts.{index_fits}
use Rattle.mr_wire.specs.inner.FrameParts.{descent_with}
use Rattle.mr_wire.specs.FrameSpelling.{frame_bytes}
use Rattle.mr_wire.specs.Decoding.{decoded}

abbrev name : ℕ → ℕ → Name
name author counter = record { author = author; counter = counter }

-- an author's versions from 1 to this one
abbrev upto : (author last : ℕ) → AuthorColumn
upto author last = record { author = author; column = record { upto = last; holes = [] } }

-- a record of the stream 1 of replica 0, for the session 1 of replica 1
abbrev sent : (index : ℕ) → Body → Frame
sent index body = frame.Record (record { header = record { source = 0; stream = 1; target = 1; session = 1; index = index }; body = body })

-- its header's bytes: source, stream, target, session and index
abbrev header_row : ℕ → List ℕ
header_row index = 0 ∷ 0 ∷ 0 ∷ 0 ∷ 0 ∷ 0 ∷ 0 ∷ 0 ∷ 0 ∷ 1 ∷ 0 ∷ 1 ∷ 0 ∷ 0 ∷ 0 ∷ 0 ∷ 0 ∷ 0 ∷ 0 ∷ 1 ∷ 0 ∷ 0 ∷ 0 ∷ index ∷ []

-- ---- a frame of each kind, in the format 2: length, format, kind, and what the kind has

-- replica 1 asks in its session 1 for what has the label inbox, and knows nothing of any item
abbrev ask : Frame
ask = frame.Ask (record { target = 1; session = 1; filter = record { all_labels = codes "inbox" ∷ []; no_labels = []; flags_on = 0; flags_off = 0; since = 0 } ∷ []; fragments = record { items = None; vector = [] } ∷ [] })

abbrev ask_row : List ℕ
ask_row = 0 ∷ 0 ∷ 0 ∷ 32 ∷ 2 ∷ 0 ∷ 0 ∷ 1 ∷ 0 ∷ 0 ∷ 0 ∷ 0 ∷ 0 ∷ 0 ∷ 0 ∷ 1 ∷ 1 ∷ 1 ∷ 5 ∷ 105 ∷ 110 ∷ 98 ∷ 111 ∷ 120 ∷ 0 ∷ 0 ∷ 0 ∷ 0 ∷ 0 ∷ 0 ∷ 0 ∷ 0 ∷ 1 ∷ 0 ∷ 0 ∷ 0 ∷ []

-- it is spelled so
pub ask_is : frame_bytes 2 ask ≡ ask_row
ask_is = refl

-- and read again, with the length of all its bytes
pub ask_is_read : decoded ask_row ≡ Ok (ask, 36)
unfolding run_at
ask_is_read = refl

-- a full stream starts
abbrev start : Frame
start = sent 0 (Start Full)

abbrev start_row : List ℕ
start_row = 0 ∷ 0 ∷ 0 ∷ 27 ∷ 2 ∷ 1 ∷ (header_row 0 ++ 1 ∷ [])

-- it is spelled so
pub start_is : frame_bytes 2 start ≡ start_row
start_is = refl

-- and read again, with the length of all its bytes
pub start_is_read : decoded start_row ≡ Ok (start, 31)
start_is_read = refl

-- the first version of the item 0.1, with its message
abbrev item : Frame
item = sent 1 (Item (record { item = name 0 1; version = name 0 1; below = []; message = record { from = codes "ann"; subject = codes "Hi"; body = codes "there"; labels = codes "a" ∷ []; flags = 1; day = 7 } }))

abbrev item_row : List ℕ
item_row = 0 ∷ 0 ∷ 0 ∷ 64 ∷ 2 ∷ 2 ∷ (header_row 1 ++ 0 ∷ 0 ∷ 0 ∷ 0 ∷ 0 ∷ 1 ∷ 0 ∷ 0 ∷ 0 ∷ 0 ∷ 0 ∷ 1 ∷ 0 ∷ 0 ∷ 0 ∷ 3 ∷ 97 ∷ 110 ∷ 110 ∷ 0 ∷ 2 ∷ 72 ∷ 105 ∷ 0 ∷ 0 ∷ 0 ∷ 5 ∷ 116 ∷ 104 ∷ 101 ∷ 114 ∷ 101 ∷ 1 ∷ 1 ∷ 97 ∷ 1 ∷ 0 ∷ 7 ∷ [])

-- it is spelled so
pub item_is : frame_bytes 2 item ≡ item_row
item_is = refl

-- 0.1 is all that the source holds
abbrev held : Frame
held = sent 2 (Held (upto 0 1 ∷ []))

abbrev held_row : List ℕ
held_row = 0 ∷ 0 ∷ 0 ∷ 36 ∷ 2 ∷ 4 ∷ (header_row 2 ++ 0 ∷ 1 ∷ 0 ∷ 0 ∷ 0 ∷ 0 ∷ 0 ∷ 1 ∷ 0 ∷ 0 ∷ [])

-- it is spelled so
pub held_is : frame_bytes 2 held ≡ held_row
held_is = refl

-- and read again, with the length of all its bytes
pub held_is_read : decoded held_row ≡ Ok (held, 40)
unfolding run_at
held_is_read = refl

-- the stream ends
abbrev end : Frame
end = sent 4 End

abbrev end_row : List ℕ
end_row = 0 ∷ 0 ∷ 0 ∷ 26 ∷ 2 ∷ 6 ∷ header_row 4

-- it is spelled so
pub end_is : frame_bytes 2 end ≡ end_row
end_is = refl

-- and read again, with the length of all its bytes
pub end_is_read : decoded end_row ≡ Ok (end, 30)
end_is_read = refl

-- replica 0 has 1.1 as a head
abbrev receipt : Frame
receipt = frame.Receipt (record { giver = 0; descent = descent_with (name 1 1) (name 1 1) [] })

abbrev receipt_row : List ℕ
receipt_row = 0 ∷ 0 ∷ 0 ∷ 18 ∷ 2 ∷ 7 ∷ 0 ∷ 0 ∷ 0 ∷ 1 ∷ 0 ∷ 0 ∷ 0 ∷ 1 ∷ 0 ∷ 1 ∷ 0 ∷ 0 ∷ 0 ∷ 1 ∷ 0 ∷ 0 ∷ []

-- it is spelled so
pub receipt_is : frame_bytes 2 receipt ≡ receipt_row
receipt_is = refl

-- and read again, with the length of all its bytes
pub receipt_is_read : decoded receipt_row ≡ Ok (receipt, 22)
unfolding run_at
receipt_is_read = refl

-- a partial stream starts with 0 for its mode
pub partial_start_is : frame_bytes 2 (sent 0 (Start Partial)) ≡ 0 ∷ 0 ∷ 0 ∷ 27 ∷ 2 ∷ 1 ∷ (header_row 0 ++ 0 ∷ [])
partial_start_is = refl

-- what follows a frame is no part of it
pub end_and_more : decoded (end_row ++ 7 ∷ 7 ∷ []) ≡ Ok (end, 30)
end_and_more = refl

-- ---- the first thing that is wrong

-- no bytes at all are a frame that lacks its end
pub nothing_at_all : decoded [] ≡ Err Truncated
nothing_at_all = refl

-- a length over the limit is told before its bytes are there, and one below 2 as well
pub lengths_come_first : map decoded ((255 ∷ 255 ∷ 255 ∷ 255 ∷ []) ∷ (0 ∷ 0 ∷ 0 ∷ 0 ∷ []) ∷ []) ≡ Err TooLong ∷ Err BadBody ∷ []
lengths_come_first = refl

-- a frame that lacks its end is not looked into, though its format is wrong
pub end_before_format : decoded (0 ∷ 0 ∷ 0 ∷ 2 ∷ 3 ∷ []) ≡ Err Truncated
end_before_format = refl

-- a wrong format is told before a wrong kind
pub format_before_kind : decoded (0 ∷ 0 ∷ 0 ∷ 2 ∷ 3 ∷ 9 ∷ []) ≡ Err BadFormat
format_before_kind = refl

-- a wrong kind is told before what is behind it
pub kind_before_body : decoded (0 ∷ 0 ∷ 0 ∷ 3 ∷ 2 ∷ 8 ∷ 0 ∷ []) ≡ Err BadKind
kind_before_body = refl

-- ---- what is no frame of its kind

-- a Start has the index 0
pub late_start : decoded (0 ∷ 0 ∷ 0 ∷ 27 ∷ 2 ∷ 1 ∷ (header_row 1 ++ 1 ∷ [])) ≡ Err BadBody
late_start = refl

-- and no other record has it
pub early_end : decoded (0 ∷ 0 ∷ 0 ∷ 26 ∷ 2 ∷ 6 ∷ header_row 0) ≡ Err BadBody
early_end = refl

-- a mode is 0 or 1
pub mode_of_two : decoded (0 ∷ 0 ∷ 0 ∷ 27 ∷ 2 ∷ 1 ∷ (header_row 0 ++ 2 ∷ [])) ≡ Err BadBody
mode_of_two = refl

-- a byte that the length counts and the kind has not
pub byte_too_many : decoded (0 ∷ 0 ∷ 0 ∷ 27 ∷ 2 ∷ 6 ∷ (header_row 4 ++ 0 ∷ [])) ≡ Err BadBody
byte_too_many = refl

-- which indexes fit: 0 for a Start alone
pub which_index_fits : index_fits kind.Start 0 ∷ index_fits kind.Start 1 ∷ index_fits kind.End 0 ∷ index_fits kind.End 1 ∷ [] ≡ true ∷ false ∷ false ∷ true ∷ []
which_index_fits = refl

-- the byte 7 is a receipt in the format 2 alone, and the byte 8 is no kind
pub receipt_since_two : kind_of_byte 1 7 ∷ kind_of_byte 2 7 ∷ kind_of_byte 2 8 ∷ [] ≡ None ∷ Some kind.Receipt ∷ None ∷ []
receipt_since_two = refl

-- ---- parts

-- a number has its highest byte first, and leaves what follows
pub highest_first : number_at w16 (1 ∷ 2 ∷ 3 ∷ []) ≡ Some (258, 3 ∷ [])
highest_first = refl

-- a number is not there where a byte lacks
pub byte_lacks : number_at w16 (1 ∷ []) ≡ None
byte_lacks = refl

-- no bytes stand anywhere, and two bytes only where there are two
pub some_bytes : bytes_at 0 [] ∷ bytes_at 2 (5 ∷ 6 ∷ 7 ∷ []) ∷ bytes_at 2 (5 ∷ []) ∷ [] ≡ Some ([], []) ∷ Some (5 ∷ 6 ∷ [], 7 ∷ []) ∷ None ∷ []
some_bytes = refl

-- an author is at most 63, and a counter at least 1
pub names_in_range : map name_at ((0 ∷ 63 ∷ 0 ∷ 0 ∷ 0 ∷ 1 ∷ []) ∷ (0 ∷ 64 ∷ 0 ∷ 0 ∷ 0 ∷ 1 ∷ []) ∷ (0 ∷ 63 ∷ 0 ∷ 0 ∷ 0 ∷ 0 ∷ []) ∷ []) ≡ Some (name 63 1, []) ∷ None ∷ None ∷ []
names_in_range = refl

-- labels rise: a and then b are labels, and b and then a, or a twice, are none
pub labels_rise : map labels_at ((2 ∷ 1 ∷ 97 ∷ 1 ∷ 98 ∷ []) ∷ (2 ∷ 1 ∷ 98 ∷ 1 ∷ 97 ∷ []) ∷ (2 ∷ 1 ∷ 97 ∷ 1 ∷ 97 ∷ []) ∷ []) ≡ Some (codes "a" ∷ codes "b" ∷ [], []) ∷ None ∷ None ∷ []
unfolding run_at
labels_rise = refl

-- an item's first version supersedes nothing
pub first_versions : map (λ below. is_descent (descent_with (name 0 1) (name 0 1) below)) ([] ∷ (upto 1 1 ∷ []) ∷ []) ≡ true ∷ false ∷ []
first_versions = refl

-- a later one supersedes the first, and never itself
pub later_versions : map (λ below. is_descent (descent_with (name 0 1) (name 0 3) below)) ((upto 0 2 ∷ []) ∷ (upto 0 3 ∷ []) ∷ (upto 1 1 ∷ []) ∷ []) ≡ true ∷ false ∷ false ∷ []
later_versions = refl

-- items rise: no item follows itself
pub which_items_follow : item_follows None (name 0 1) ∷ item_follows (Some (name 0 9)) (name 1 1) ∷ item_follows (Some (name 0 1)) (name 0 1) ∷ [] ≡ true ∷ true ∷ false ∷ []
which_items_follow = refl

-- a fragment of all items comes first, and once
pub which_fragments_follow : least_follows None None ∷ least_follows (Some None) None ∷ least_follows (Some None) (Some (name 0 1)) ∷ least_follows (Some (Some (name 0 1))) None ∷ [] ≡ true ∷ false ∷ true ∷ false ∷ []
which_fragments_follow = refl

-- the least item of a list that rises is its first
pub least_of_some : map least_item (None ∷ Some (name 0 3 ∷ name 1 1 ∷ []) ∷ []) ≡ None ∷ Some (name 0 3) ∷ []
least_of_some = refl

-- a fragment that lists items lists at least one
pub no_items_listed : ¬ AreItems (Some [])
no_items_listed given = absurd (omega (arith, given.0))
