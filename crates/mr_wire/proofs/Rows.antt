-- Worked rows: frames whose bytes were worked out by hand, in both formats.
use Rattle.std.proofs.Common.{◌≡◌, ℕ, refl, List, [], ◌∷◌, ◌++◌, Some, None, Ok, Err}
use Rattle.mr_wire.proofs.Names.{AuthorColumn, BadBody, BadFormat, BadKind, Frame, Header, Hole, Name, Piece, TooLong, Truncated, decoded, frame_bytes}
use Rattle.mr_wire.proofs.Names.{total_len}
use Rattle.mr_wire.specs.Reading.{run_at}
use Rattle.mr_wire.specs.declared.frame.Body.TheVariants.{MoveOut, Know}
use Rattle.mr_wire.specs.declared.frame.Frame.TheVariants as frame

abbrev name : ℕ → ℕ → Name
name author counter = record { author = author; counter = counter }

abbrev column : ℕ → ℕ → List Hole → AuthorColumn
column author upto holes = record { author = author; column = record { upto = upto; holes = holes } }

-- from replica 0, its stream 1, to replica 1, in its session 1
abbrev header : ℕ → Header
header index = record { source = 0; stream = 1; target = 1; session = 1; index = index }

abbrev one : List ℕ
one = 0 ∷ 0 ∷ 0 ∷ 0 ∷ 0 ∷ 0 ∷ 0 ∷ 1 ∷ []

abbrev header_row : ℕ → List ℕ
header_row index = (0 ∷ 0 ∷ []) ++ (one ++ ((0 ∷ 1 ∷ []) ++ (one ++ (0 ∷ 0 ∷ 0 ∷ index ∷ []))))

-- ---- that 0.5, a version of 0.1 with the versions 0.1 and 0.4 below it, was moved out

abbrev moved : Frame
moved = frame.Record (record { header = header 2; body = MoveOut (record { item = name 0 1; version = name 0 5; below = column 0 4 ((record { first = 2; last = 3 }) ∷ []) ∷ [] }) })

abbrev moved_row : ℕ → List ℕ
moved_row format =
    0 ∷ 0 ∷ 0 ∷ 56 ∷ format ∷ 3 ∷ (header_row 2 ++
    (0 ∷ 0 ∷ 0 ∷ 0 ∷ 0 ∷ 1 ∷ 0 ∷ 0 ∷ 0 ∷ 0 ∷ 0 ∷ 5 ∷ 0 ∷ 1 ∷ 0 ∷ 0 ∷ 0 ∷ 0 ∷ 0 ∷ 4 ∷ 0 ∷ 1 ∷ 0 ∷ 0 ∷ 0 ∷ 2 ∷ 0 ∷ 0 ∷ 0 ∷ 3 ∷ []))

moved_is : frame_bytes 2 moved ≡ moved_row 2
moved_is = refl

moved_was : frame_bytes 1 moved ≡ moved_row 1
moved_was = refl

moved_is_read : decoded (moved_row 2 ++ 7 ∷ []) ≡ Ok (moved, 60)
unfolding run_at
moved_is_read = refl

moved_was_read : decoded (moved_row 1) ≡ Ok (moved, 60)
unfolding run_at
moved_was_read = refl

-- ---- that the version 0.1 is known for the items 0.1 and 1.1

abbrev known : Piece
known = record { items = Some (name 0 1 ∷ name 1 1 ∷ []); vector = column 0 1 [] ∷ [] }

abbrev know : Frame
know = frame.Record (record { header = header 3; body = Know known })

abbrev know_row : ℕ → List ℕ
know_row format =
    0 ∷ 0 ∷ 0 ∷ 53 ∷ format ∷ 5 ∷ (header_row 3 ++
    (1 ∷ 0 ∷ 0 ∷ 0 ∷ 2 ∷ 0 ∷ 0 ∷ 0 ∷ 0 ∷ 0 ∷ 1 ∷ 0 ∷ 1 ∷ 0 ∷ 0 ∷ 0 ∷ 1 ∷ 0 ∷ 1 ∷ 0 ∷ 0 ∷ 0 ∷ 0 ∷ 0 ∷ 1 ∷ 0 ∷ 0 ∷ []))

know_is : frame_bytes 2 know ≡ know_row 2
know_is = refl

know_was : frame_bytes 1 know ≡ know_row 1
know_was = refl

know_is_read : decoded (know_row 2 ++ 7 ∷ []) ≡ Ok (know, 57)
unfolding run_at
know_is_read = refl

know_was_read : decoded (know_row 1) ≡ Ok (know, 57)
unfolding run_at
know_was_read = refl

-- it takes 27 bytes, and an empty fragment of all items takes 3
known_len : total_len (known ∷ (record { items = None; vector = [] }) ∷ []) ≡ 30
known_len = refl

-- ---- what is no frame, by the first thing that is wrong with it

fault_of_three_bytes : decoded (0 ∷ 0 ∷ 0 ∷ []) ≡ Err Truncated
fault_of_three_bytes = refl

fault_over_the_limit : decoded (0 ∷ 128 ∷ 0 ∷ 1 ∷ []) ≡ Err TooLong
fault_over_the_limit = refl

fault_at_the_limit : decoded (0 ∷ 128 ∷ 0 ∷ 0 ∷ []) ≡ Err Truncated
fault_at_the_limit = refl

fault_of_length_1 : decoded (0 ∷ 0 ∷ 0 ∷ 1 ∷ []) ≡ Err BadBody
fault_of_length_1 = refl

fault_of_format_3 : decoded (0 ∷ 0 ∷ 0 ∷ 2 ∷ 3 ∷ 0 ∷ []) ≡ Err BadFormat
fault_of_format_3 = refl

fault_of_an_early_receipt : decoded (0 ∷ 0 ∷ 0 ∷ 2 ∷ 1 ∷ 7 ∷ []) ≡ Err BadKind
fault_of_an_early_receipt = refl

fault_of_a_bare_end : decoded (0 ∷ 0 ∷ 0 ∷ 2 ∷ 2 ∷ 6 ∷ []) ≡ Err BadBody
fault_of_a_bare_end = refl
