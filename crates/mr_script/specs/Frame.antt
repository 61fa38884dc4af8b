-- what is printed of a frame: its words, with a space between each two
use Rattle.std.specs.Prelude.{◌≡◌, ℕ, ◌-◌, ◌==◌, Bool, true, false, not, if◌then◌else◌, List, [], ◌∷◌, ◌++◌, length, Option, Some, None, Result, Ok, Err, filter, codes}
use Rattle.std.specs.List.{join_by}
use Rattle.std.specs.Fmt.{decimal}
use Rattle.hex.specs.declared.error.FromHexError.{FromHexError}
use Rattle.hex.specs.Hex.{decode_of}
use Rattle.mr_version.specs.Name.{Name, name_text}
use Rattle.mr_concise.specs.Text.{vector_text}
use Rattle.mr_filter.specs.Text.{IsFilterText}
use Rattle.mr_wire.specs.declared.fault.WireFault.{WireFault}
use Rattle.mr_wire.specs.declared.fault.WireFault.TheVariants.{OutOfMemory, Truncated, TooLong, BadFormat, BadKind, BadBody}
use Rattle.mr_wire.specs.declared.frame.Mode.{Mode}
use Rattle.mr_wire.specs.declared.frame.Mode.TheVariants.{Partial, Full}
use Rattle.mr_wire.specs.declared.frame.Header.{Header}
use Rattle.mr_wire.specs.declared.frame.Body.{Body}
use Rattle.mr_wire.specs.declared.frame.Body.TheVariants.{Start, Item, MoveOut, Held, Know, End}
use Rattle.mr_wire.specs.declared.frame.Receipt.{Receipt}
use Rattle.mr_wire.specs.declared.frame.Frame.{Frame}
use Rattle.mr_wire.specs.declared.frame.Frame.TheVariants as frame
use Rattle.mr_wire.specs.Values.{Piece}
use Rattle.mr_wire.specs.Frames.{Sent, Question}
use Rattle.mr_wire.specs.Fault.{fault_number}
use Rattle.mr_wire.specs.Decoding.{decoded}

-- words with a space between each two
abbrev pub joined_words : List (List ℕ) → List ℕ
joined_words words = join_by (λ word. word) (codes " ") words

-- a line of these words
abbrev pub line_of : List (List ℕ) → List ℕ
line_of words = joined_words words ++ codes "\n"

-- all items, or the items with commas between them
abbrev pub items_text : Option (List Name) → List ℕ
items_text None = codes "all"
items_text (Some items) = join_by name_text (codes ",") items

-- a fragment: its items, a space, and its vector
abbrev pub piece_text : Piece → List ℕ
piece_text piece = items_text piece.items ++ codes " " ++ vector_text piece.vector

-- fragments as they stand, with semicolons between them, or -
abbrev pub pieces_text : List Piece → List ℕ
pieces_text [] = codes "-"
pieces_text (piece ∷ pieces) = join_by piece_text (codes "; ") (piece ∷ pieces)

abbrev pub kind_word : Body → List ℕ
kind_word (Start mode) = codes "start"
kind_word (Item revision) = codes "item"
kind_word (MoveOut line) = codes "moveout"
kind_word (Held vector) = codes "held"
kind_word (Know piece) = codes "know"
kind_word End = codes "end"

abbrev pub mode_word : Mode → List ℕ
mode_word Partial = codes "partial"
mode_word Full = codes "full"

-- a version of an item
abbrev pub version_words : Name → Name → List (List ℕ)
version_words version item = name_text version ∷ codes "of" ∷ name_text item ∷ []

-- what a record says
abbrev pub said_words : Body → List (List ℕ)
said_words (Start mode) = mode_word mode ∷ []
said_words (Item revision) = version_words revision.version revision.item
said_words (MoveOut line) = version_words line.version line.item
said_words (Held vector) = vector_text vector ∷ []
said_words (Know piece) = piece_text piece ∷ []
said_words End = []

-- a record of this kind: from whom, for whom, and where it stands in its stream
abbrev pub header_words : List ℕ → Header → List (List ℕ)
header_words kind h =
    kind ∷ codes "source" ∷ decimal h.source ∷ codes "stream" ∷ decimal h.stream ∷ codes "target" ∷ decimal h.target ∷ codes "session" ∷ decimal h.session ∷ codes "index" ∷ decimal h.index ∷ []

abbrev pub record_words : Sent → List (List ℕ)
record_words r = header_words (kind_word r.body) r.header ++ said_words r.body

-- a request whose filter has this text
abbrev pub ask_words : Question → List ℕ → List (List ℕ)
ask_words q filter =
    codes "ask" ∷ codes "target" ∷ decimal q.target ∷ codes "session" ∷ decimal q.session ∷ codes "knows" ∷ pieces_text q.fragments ∷ codes "filter" ∷ filter ∷ []

abbrev pub receipt_words : Receipt → List (List ℕ)
receipt_words r = codes "receipt" ∷ codes "giver" ∷ decimal r.giver ∷ codes "version" ∷ version_words r.descent.version r.descent.item

-- the request's line, with a text of its filter
pub record IsAskLine (q : Question) (line : List ℕ) : Type 0 where
  pub filter : List ℕ
  pub is_filter : IsFilterText q.filter filter
  pub written : line ≡ line_of (ask_words q filter)

-- the frame's line
abbrev pub IsFrameLine : Frame → List ℕ → Type 0
IsFrameLine (frame.Ask q) line = IsAskLine q line
IsFrameLine (frame.Record r) line = line ≡ line_of (record_words r)
IsFrameLine (frame.Receipt r) line = line ≡ line_of (receipt_words r)

abbrev pub fault_name : WireFault → List ℕ
fault_name OutOfMemory = codes "OutOfMemory"
fault_name Truncated = codes "Truncated"
fault_name TooLong = codes "TooLong"
fault_name BadFormat = codes "BadFormat"
fault_name BadKind = codes "BadKind"
fault_name BadBody = codes "BadBody"

abbrev pub refused_line : WireFault → List ℕ
refused_line fault = line_of (codes "refused" ∷ decimal (fault_number fault) ∷ fault_name fault ∷ [])

-- the line that counts the bytes behind a frame, if there are any
abbrev pub rest_line : ℕ → List ℕ
rest_line count = if count == 0 then [] else line_of (codes "rest" ∷ decimal count ∷ [])

-- the bytes that a word spells by two digits each, of either case; spaces are skipped
abbrev pub bytes_of : List ℕ → Result (List ℕ) FromHexError
bytes_of word = decode_of (filter (λ c. not (c == 32)) word)

-- what is told of so many bytes: the frame's line and the count of those behind it; or a fault
abbrev pub TellsFound : Result (Frame × ℕ) WireFault → ℕ → List ℕ → Bool → Type 0
TellsFound (Ok found) count lines is_fault = (line : List ℕ) × IsFrameLine found.0 line × (lines ≡ line ++ rest_line (count - found.1)) × (is_fault ≡ false)
TellsFound (Err fault) count lines is_fault = (lines ≡ refused_line fault) × (is_fault ≡ true)

-- what is told of a word
abbrev pub Tells : Result (List ℕ) FromHexError → List ℕ → Bool → Type 0
Tells (Ok bytes) lines is_fault = TellsFound (decoded bytes) (length bytes) lines is_fault
Tells (Err fault) lines is_fault = (lines ≡ codes "not hex\n") × (is_fault ≡ true)
