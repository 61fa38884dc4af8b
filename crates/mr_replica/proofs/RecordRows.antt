-- Worked rows: what the definitions of taking a record say of states that were computed by hand.
use Rattle.std.proofs.Common.{◌≡◌, ℕ, Bool, true, false, refl, List, [], ◌∷◌, map, Some, None}
use Rattle.mr_replica.proofs.Names.{Added, All-head, All-tail, Ask, AuthorColumn, Body, DescentParts, Dropped, End, Finished, FitBeforeMemory, Fits, Forged}
use Rattle.mr_replica.proofs.Names.{Form, Full, Gap, Held, Item, Know, Known, LogFull, Mode, MoveOut, Name, NoSession, NotARecord, NotForMe, NotStart}
use Rattle.mr_replica.proofs.Names.{OtherStream, Pairs, Partial, Piece, Question, Receive, Record, Repeated, Retired, Rev, Sent, Session, Start, State}
use Rattle.mr_replica.proofs.Names.{TakesBody, TakesFrame, Took, Wanted, Wanted.Knowledge, Wanted.Vector, card_of, empty_table, ending, entering, false≢true}
use Rattle.mr_replica.proofs.Names.{finished, is_forged, is_listed, learning, line_learned, line_of, merged_by, merges, moved_on, new_session, receipt_for}
use Rattle.mr_replica.proofs.Names.{receive_refusal, retiring, version_of, wanted_by_frame}
use Rattle.mr_wire.specs.declared.frame.Frame.TheVariants.{Receipt}
use Rattle.mr_replica.proofs.Rows.{name, mail, column, rev, of_item, all_messages}

-- knowledge that is its own test of an item and a version; what is learned for an item is learned for it alone
abbrev by_pairs : Form Pairs
by_pairs = record { known = λ pairs. pairs; is_part = λ _ _. ⊥; learns_for_all = λ _ _ _ _. false; firsts_for_all = λ _ _ _ _. false; has_too_many_holes = λ _. ⊥; has_too_many_items = λ _. ⊥ }

-- these versions, for each item
abbrev knowing : List Name → Pairs
knowing versions item version = is_listed versions version

-- a session that is bound to the stream 1 of replica 0, and takes the record of this index next
abbrev bound : Mode → (next : ℕ) → Session
bound mode next = record { origin = Some (record { source = 0; stream = 1; mode = mode }); next = next; held = []; know = [] }

-- replica 1, which issued 1.1, knows 0.1 and 1.1, has these heads, and of which this session 1 is open
abbrev receiver : Session → List Rev → State Pairs
receiver session heads = record { id = 1; filter = all_messages; event_limit = 9; issued = 1; knowledge = knowing (name 0 1 ∷ name 1 1 ∷ []); heads = heads; push_outs = []; trail = []; feed = []; push_out_feed = []; log = []; is_retired = false; sessions = record { opened = 1; open_ones = (record { number = 1; value = session }) ∷ [] }; streams = empty_table }

-- a record for it, of a stream of replica 0
abbrev sent : (stream index : ℕ) → Body → Sent
sent stream index body = record { header = record { source = 0; stream = stream; target = 1; session = 1; index = index }; body = body }

-- ---- refusals in their order

abbrev first : Rev
first = rev (name 0 1) []

-- the next record is the one behind the Start
abbrev begun : State Pairs
begun = receiver (bound Full 1) (first ∷ [])

abbrev request : Question
request = record { target = 1; session = 1; filter = all_messages; fragments = [] }

-- the own 1.2 was not issued
abbrev unissued : Rev
unissued = rev (name 1 2) (column 0 1 ∷ [])

records_refused :
    (receive_refusal begun (Ask request) ≡ Some NotARecord)
    × (receive_refusal begun (Receipt (receipt_for 0 first)) ≡ Some NotARecord)
    × (receive_refusal (record begun { event_limit = 0 }) (Ask request) ≡ Some NotARecord)
    × (receive_refusal (retiring begun) (Ask request) ≡ Some Retired)
    × (receive_refusal (retiring (record begun { id = 2 })) (Record (sent 1 1 End)) ≡ Some Retired)
    × (receive_refusal (record begun { id = 2; sessions = empty_table }) (Record (sent 1 1 End)) ≡ Some NotForMe)
    × (receive_refusal (record begun { sessions = record { opened = 1; open_ones = [] } }) (Record (sent 1 1 End)) ≡ Some NoSession)
    -- a session that is bound to no stream begins with a Start of any
    × (receive_refusal (receiver new_session []) (Record (sent 1 1 End)) ≡ Some NotStart)
    × (receive_refusal (receiver new_session []) (Record (sent 5 0 (Start Full))) ≡ None)
    -- the next record of its stream is taken, and none of another stream, of the same source or of another
    × (receive_refusal begun (Record (sent 1 1 End)) ≡ None)
    × (receive_refusal begun (Record (sent 2 1 End)) ≡ Some OtherStream)
    × (receive_refusal begun (Record (record { header = record { source = 3; stream = 1; target = 1; session = 1; index = 1 }; body = End })) ≡ Some OtherStream)
    -- a second Start: of another stream, and of the same
    × (receive_refusal begun (Record (sent 2 0 (Start Full))) ≡ Some OtherStream)
    × (receive_refusal begun (Record (sent 1 0 (Start Full))) ≡ Some Repeated)
    × (receive_refusal begun (Record (sent 1 2 End)) ≡ Some Gap)
    × (receive_refusal begun (Record (sent 1 2 (Item unissued))) ≡ Some Gap)
    × (receive_refusal (record begun { event_limit = 0 }) (Record (sent 1 1 (Item unissued))) ≡ Some Forged)
    × (receive_refusal (record begun { event_limit = 0 }) (Record (sent 1 1 End)) ≡ Some LogFull)
records_refused = (refl, refl, refl, refl, refl, refl, refl, refl, refl, refl, refl, refl, refl, refl, refl, refl, refl, refl)

-- ---- what no replica gave

abbrev line : (item version : Name) → List AuthorColumn → DescentParts
line item version below = record { item = item; version = version; below = below }

which_are_forged :
    -- own versions up to 1.1 were issued, and versions of others are not judged
    (is_forged begun (Item (rev (name 1 1) (column 0 7 ∷ []))) ≡ false)
    × (is_forged begun (Item (rev (name 2 9) (column 0 7 ∷ column 1 1 ∷ []))) ≡ false)
    -- in an item, a version, or what it supersedes
    × (is_forged begun (MoveOut (line (name 1 2) (name 2 1) (column 1 1 ∷ []))) ≡ true)
    × (is_forged begun (MoveOut (line (name 0 1) (name 1 2) (column 0 1 ∷ []))) ≡ true)
    × (is_forged begun (Item (rev (name 0 2) (column 0 1 ∷ column 1 2 ∷ []))) ≡ true)
    -- in a vector of what is held or known, or in the items of a fragment
    × (map (λ upto. is_forged begun (Held (column 0 9 ∷ column 1 upto ∷ []))) (1 ∷ 2 ∷ []) ≡ false ∷ true ∷ [])
    × (map (λ upto. is_forged begun (Know (record { items = None; vector = column 1 upto ∷ [] }))) (1 ∷ 2 ∷ []) ≡ false ∷ true ∷ [])
    × (map (λ counter. is_forged begun (Know (record { items = Some (name 0 1 ∷ name 1 counter ∷ []); vector = column 0 1 ∷ [] }))) (1 ∷ 2 ∷ []) ≡ false ∷ true ∷ [])
    -- the held 0.1 comes as a version of another item; a MoveOut of it enters nothing, and is not judged by this
    × (is_forged begun (Item (record { item = name 2 1; version = name 0 1; below = column 2 1 ∷ []; message = mail })) ≡ true)
    × (is_forged (record begun { heads = []; push_outs = first ∷ [] }) (Item (record { item = name 2 1; version = name 0 1; below = column 2 1 ∷ []; message = mail })) ≡ true)
    × (is_forged (record begun { heads = [] }) (Item (record { item = name 2 1; version = name 0 1; below = column 2 1 ∷ []; message = mail })) ≡ false)
    × (is_forged begun (MoveOut (line (name 2 1) (name 0 1) (column 2 1 ∷ []))) ≡ false)
which_are_forged = (refl, refl, refl, refl, refl, refl, refl, refl, refl, refl, refl, refl)

-- ---- an Item of an unknown version: 0.2, which supersedes 0.1 and 2.1

abbrev second : Rev
second = rev (name 0 2) (column 0 1 ∷ column 2 1 ∷ [])

abbrev three_held : State Pairs
three_held = record (receiver (bound Full 1) (rev (name 1 1) (column 0 1 ∷ []) ∷ rev (name 2 1) (column 0 1 ∷ []) ∷ [])) { push_outs = first ∷ [] }

abbrev taken : State Pairs
taken = moved_on (learning three_held (line_learned by_pairs three_held (line_of second)) (line_of second) (Some second)) (sent 1 1 (Item second))

-- a filled column has counters of other items, whose revisions stay
abbrev filled : Rev
filled = rev (name 0 5) (column 0 4 ∷ [])

abbrev two_items : State Pairs
two_items = receiver (bound Full 1) (first ∷ of_item (name 0 3) ∷ [])

takes_an_unknown_item : TakesFrame by_pairs three_held (Record (sent 1 1 (Item second))) Took taken
takes_an_unknown_item = (refl, (λ i v. refl), refl)

after_an_item :
    -- what it supersedes leaves heads and push-outs, the known 1.1 stays, and the feed tells of the heads
    (map version_of taken.heads ≡ name 0 2 ∷ name 1 1 ∷ [])
    × (taken.push_outs ≡ [])
    × (taken.feed ≡ Dropped (name 0 1) (name 2 1) ∷ Added (name 0 1) (name 0 2) (card_of mail) ∷ [])
    × (taken.sessions ≡ record { opened = 1; open_ones = (record { number = 1; value = bound Full 2 }) ∷ [] })
    × (taken.log ≡ Receive (Record (sent 1 1 (Item second))) ∷ [])
    -- it is learned for its item, with what it supersedes, and nothing else is
    × (map (taken.knowledge (name 0 1)) (name 0 1 ∷ name 0 2 ∷ name 0 3 ∷ name 2 1 ∷ name 2 2 ∷ []) ≡ true ∷ true ∷ false ∷ true ∷ false ∷ [])
    × (map (taken.knowledge (name 5 1)) (name 0 2 ∷ name 2 1 ∷ []) ≡ false ∷ false ∷ [])
after_an_item = (refl, refl, refl, refl, refl, refl, refl)

-- an unknown version is not answered as known
unknown_is_learned : (new : State Pairs) → ¬ TakesBody by_pairs three_held (sent 1 1 (Item second)) (Item second) Known new
unknown_is_learned new takes = let known = takes.0 in cc

other_items_stay : map version_of (learning two_items two_items.knowledge (line_of filled) (Some filled)).heads ≡ name 0 3 ∷ name 0 5 ∷ []
other_items_stay = refl

-- ---- a known version, which is not added again once it has left

abbrev moved : State Pairs
moved = moved_on (receiver (bound Full 1) []) (sent 1 1 (Item first))

known_item :
    (TakesFrame by_pairs (receiver (bound Full 1) []) (Record (sent 1 1 (Item first))) Known moved)
    × ((moved.heads ≡ []) × (moved.feed ≡ []))
known_item = ((refl, refl), (refl, refl))

known_is_not_learned : (new : State Pairs) → ¬ TakesBody by_pairs (receiver (bound Full 1) []) (sent 1 1 (Item first)) (Item first) Took new
known_is_not_learned new takes = let unknown = takes.0 in cc

-- ---- what the filter does not select, and a MoveOut: the same, with nothing that enters

abbrev moved_out : State Pairs
moved_out = moved_on (learning three_held (line_learned by_pairs three_held (line_of second)) (line_of second) None) (sent 1 1 (MoveOut (line_of second)))

what_enters :
    (entering three_held (Item second) ≡ Some second)
    × (entering (record three_held { filter = [] }) (Item second) ≡ None)
    × (entering three_held (MoveOut (line_of second)) ≡ None)
what_enters = (refl, refl, refl)

takes_a_move_out : TakesFrame by_pairs three_held (Record (sent 1 1 (MoveOut (line_of second)))) Took moved_out
takes_a_move_out = (refl, (λ i v. refl), refl)

after_a_move_out :
    (map version_of moved_out.heads ≡ name 1 1 ∷ [])
    × (moved_out.feed ≡ Dropped (name 0 1) (name 2 1) ∷ [])
    × (map (moved_out.knowledge (name 0 1)) (name 0 2 ∷ name 2 1 ∷ []) ≡ true ∷ true ∷ [])
after_a_move_out = (refl, refl, refl)

-- ---- records of a full stream's end are kept, and teach nothing yet

abbrev all_of_two : Piece
all_of_two = record { items = None; vector = column 0 2 ∷ [] }

abbrev kept : State Pairs
kept = moved_on begun (sent 1 1 (Know all_of_two))

after_a_fragment :
    (TakesFrame by_pairs begun (Record (sent 1 1 (Know all_of_two))) Took kept)
    × (kept.sessions.open_ones ≡ (record { number = 1; value = record (bound Full 2) { know = all_of_two ∷ [] } }) ∷ [])
    × (map (kept.knowledge (name 0 1)) (name 0 1 ∷ name 0 2 ∷ []) ≡ true ∷ false ∷ [])
after_a_fragment = (refl, refl, refl)

-- ---- an End: the source knows 0.2, which supersedes the head 0.1, and holds nothing

-- a session that was told of these held versions and fragments
abbrev told_of : Mode → List (List AuthorColumn) → List Piece → Session
told_of mode held know = record (bound mode 4) { held = held; know = know }

abbrev late : State Pairs
late = receiver (told_of Full ([] ∷ []) (all_of_two ∷ [])) (first ∷ [])

abbrev ended : State Pairs
ended = finished (ending late (λ i v. is_listed (name 0 1 ∷ name 0 2 ∷ name 1 1 ∷ []) v) (told_of Full ([] ∷ []) (all_of_two ∷ []))) (sent 1 4 End)

-- an End of this session, at a replica with these heads
abbrev heads_after : Session → List Rev → List Name
heads_after session heads = map version_of (ending (receiver session heads) (knowing []) session).heads

-- the End of a partial stream teaches nothing, and drops nothing
abbrev partly : State Pairs
partly = receiver (bound Partial 4) (first ∷ [])

after_an_end :
    (ended.heads ≡ [])
    × (ended.feed ≡ Dropped (name 0 1) (name 0 1) ∷ [])
    × (ended.sessions ≡ record { opened = 1; open_ones = [] })
    -- what one of the held vectors has stays
    × (heads_after (told_of Full ((column 0 1 ∷ []) ∷ (column 2 1 ∷ []) ∷ []) ((record { items = None; vector = column 0 1 ∷ column 2 1 ∷ column 3 1 ∷ [] }) ∷ [])) (first ∷ rev (name 2 1) [] ∷ rev (name 3 1) [] ∷ []) ≡ name 0 1 ∷ name 2 1 ∷ [])
    -- what is known here and no fragment covers stays: 1.1, and 0.2 of an item that is not listed
    × (heads_after (told_of Full ([] ∷ []) ((record { items = Some (name 0 1 ∷ []); vector = column 0 2 ∷ [] }) ∷ [])) (first ∷ of_item (name 0 2) ∷ rev (name 1 1) [] ∷ []) ≡ name 0 2 ∷ name 1 1 ∷ [])
    -- push-outs stay
    × (map version_of (ending (record late { push_outs = rev (name 0 2) [] ∷ [] }) (knowing []) (told_of Full ([] ∷ []) (all_of_two ∷ []))).push_outs ≡ name 0 2 ∷ [])
    × (TakesFrame by_pairs partly (Record (sent 1 4 End)) Finished (finished partly (sent 1 4 End)))
    × (map version_of (finished partly (sent 1 4 End)).heads ≡ name 0 1 ∷ [])
after_an_end = (refl, refl, refl, refl, refl, refl, refl, refl)

-- ---- what is wanted, in the order of the tries

-- whether these versions of the item 0.1 are in what is wanted
abbrev wants : List Name → Wanted → List Bool
wants versions (Vector set) = map set versions
wants versions (Knowledge pairs) = map (pairs (name 0 1)) versions

-- the fragments one after the other
abbrev of_third : Piece
of_third = record { items = Some (name 0 1 ∷ []); vector = column 3 1 ∷ [] }

what_is_wanted :
    (wanted_by_frame by_pairs begun (Record (sent 1 1 (Item first))) ≡ [])
    -- the version alone, and then with what it supersedes
    × (map (wants (name 0 2 ∷ name 2 1 ∷ [])) (wanted_by_frame by_pairs three_held (Record (sent 1 1 (Item second)))) ≡ (true ∷ false ∷ []) ∷ (true ∷ true ∷ []) ∷ [])
    × (map (wants (name 0 2 ∷ name 1 1 ∷ name 3 1 ∷ [])) (merged_by begun.knowledge (all_of_two ∷ of_third ∷ [])) ≡ (true ∷ true ∷ false ∷ []) ∷ (true ∷ true ∷ true ∷ []) ∷ [])
    × (wanted_by_frame by_pairs partly (Record (sent 1 4 End)) ≡ [])
    -- fragments are merged at the End of a full stream alone
    × (map (λ s. merges s (Record (sent 1 4 End))) (late ∷ partly ∷ []) ≡ true ∷ false ∷ [])
    × (merges late (Record (sent 1 4 (Know all_of_two))) ≡ false)
what_is_wanted = (refl, refl, refl, refl, refl, refl)

-- ---- for what there has to be a value before memory may be wanted

-- a form that has no value for knowledge of the version 3.1
abbrev short : Form Pairs
short = record by_pairs { has_too_many_items = λ pairs. pairs (name 0 1) (name 3 1) ≡ true }

abbrev third : Wanted
third = Knowledge (knowing (name 3 1 ∷ []))

-- where fragments are merged in turn, for the first of them
later_needs_none : FitBeforeMemory short true (Knowledge (knowing []) ∷ third ∷ [])
later_needs_none = (λ h. h, false≢true)

first_needs_one : ¬ FitBeforeMemory short true (third ∷ [])
first_needs_one fits = fits.1 refl

-- else for each
each_needs_one : ¬ FitBeforeMemory short false (Knowledge (knowing []) ∷ third ∷ [])
each_needs_one fits = (All-head (Fits short) third [] (All-tail (Fits short) (Knowledge (knowing [])) (third ∷ []) fits)).1 refl
