-- worked rows: what the definitions give for small values
use Rattle.std.specs.Prelude.{◌≡◌, ℕ, true, false, List, [], ◌∷◌, map, Option, Some, None, refl}
use Rattle.mr_version.specs.Name.{Name}
use Rattle.mr_concise.specs.declared.vector.AuthorColumn.{AuthorColumn}
use Rattle.mr_madewith.specs.Revision.{Rev}
use Rattle.mr_store.specs.Holdings.{Holdings}
use Rattle.mr_wire.specs.Values.{Piece}
use Rattle.mr_wire.specs.Frames.{Sent}
use Rattle.mr_wire.specs.declared.frame.Body.{Body}
use Rattle.mr_wire.specs.declared.frame.Body.TheVariants.{Start, Item, Held, End}
use Rattle.mr_wire.specs.declared.frame.Mode.{Mode}
use Rattle.mr_wire.specs.declared.frame.Mode.TheVariants.{Full, Partial}
use Rattle.mr_session.specs.declared.fault.SessionFault.TheVariants.{NotStart, OtherStream, Repeated, Gap}
use Rattle.mr_session.specs.declared.outgoing.onward.Onward.TheVariants as onward
use Rattle.mr_session.specs.Table.{Table, Numbered, empty_table, with_opened, with_closed, open_at, open_numbers}
use Rattle.mr_session.specs.Slots.{by_number}
use Rattle.mr_session.specs.inner.Slots.{value_in}
use Rattle.mr_session.specs.Session.{Session, new_session, first_fault, with_taken}
use Rattle.mr_session.specs.inner.Merge.{is_left_first}
use Rattle.mr_session.specs.Stream.{Asked, Stream, lists, claimed, lower, new_stream, Draws, Gives, GivesIn}
use Rattle.mr_session.specs.Onward.{advanced}

abbrev name : ℕ → ℕ → Name
name author counter = record { author = author; counter = counter }

-- an author's versions from 1 to this one
abbrev upto : (author last : ℕ) → AuthorColumn
upto author last = record { author = author; column = record { upto = last; holes = [] } }

-- the first version of an item
abbrev rev : Name → Rev
rev item = record { item = item; version = item; below = []; message = record { from = []; subject = []; body = []; labels = []; flags = 0; day = 0 } }

-- ---- tables

-- one is opened, one more, the first is closed, and a third is opened
abbrev table : Table Name
table = with_opened (with_closed (with_opened (with_opened empty_table (name 0 1)) (name 0 2)) 1) (name 0 3)

-- numbers go on from those that were closed
pub opened_and_closed : table ≡ record { opened = 3; open_ones = record { number = 2; value = name 0 2 } ∷ record { number = 3; value = name 0 3 } ∷ [] }
opened_and_closed = refl

-- a closed number has nothing, and nor has one that was never opened
pub what_is_open : map (open_at table) (0 ∷ 1 ∷ 2 ∷ 3 ∷ 4 ∷ []) ≡ None ∷ None ∷ Some (name 0 2) ∷ Some (name 0 3) ∷ None ∷ []
what_is_open = refl

-- by their numbers, which rise
pub which_are_open : open_numbers table ≡ 2 ∷ 3 ∷ []
which_are_open = refl

-- to close what is not open changes nothing
pub closed_again : with_closed table 1 ≡ table
closed_again = refl

-- ---- claims

-- a fragment of all items lists each item, and one that lists none is of no item
pub which_list : map (λ items. lists items (name 0 1)) (None ∷ Some [] ∷ Some (name 0 2 ∷ []) ∷ Some (name 0 2 ∷ name 0 1 ∷ []) ∷ []) ≡ true ∷ false ∷ false ∷ true ∷ []
which_list = refl

-- 0.1 and 0.2 of all items, and 1.1 to 1.3 of the item 0.1
abbrev claims : List Piece
claims = record { items = None; vector = upto 0 2 ∷ [] } ∷ record { items = Some (name 0 1 ∷ []); vector = upto 1 3 ∷ [] } ∷ []

-- what is claimed of all items is claimed of one that no fragment names
pub claimed_of_any_item : map (claimed claims (name 5 5)) (name 0 2 ∷ name 0 3 ∷ name 1 1 ∷ []) ≡ true ∷ false ∷ false ∷ []
claimed_of_any_item = refl

-- of an item that is listed both fragments count
pub claimed_of_its_item : map (claimed claims (name 0 1)) (name 0 2 ∷ name 0 3 ∷ name 1 1 ∷ []) ≡ true ∷ false ∷ true ∷ []
claimed_of_its_item = refl

-- no fragments claim nothing
pub nothing_claimed : claimed [] (name 0 1) (name 0 1) ≡ false
nothing_claimed = refl

-- ---- two lists walked as one

-- an empty list is never first, not even before another empty one
pub who_is_first : is_left_first [] [] ∷ is_left_first (rev (name 1 1) ∷ []) [] ∷ is_left_first [] (rev (name 1 1) ∷ []) ∷ [] ≡ false ∷ true ∷ false ∷ []
who_is_first = refl

-- the lower author is first, whatever the counters
pub lower_author_first : is_left_first (rev (name 0 9) ∷ []) (rev (name 1 1) ∷ []) ≡ true
lower_author_first = refl

-- of two that are due the lower version is taken
pub lower_of_two : lower (Some (rev (name 1 1))) (Some (rev (name 0 9))) ≡ Some (rev (name 0 9))
lower_of_two = refl

-- ---- which records a session takes

-- a record of the stream of replica 0, for the session 2 of replica 9
abbrev sent : (stream index : ℕ) → Body → Sent
sent stream index body = record { header = record { source = 0; stream = stream; target = 9; session = 2; index = index }; body = body }

-- a session that is bound to the stream 1 and takes the record of the index 2 next
abbrev bound : Session
bound = record { origin = Some (record { source = 0; stream = 1; mode = Full }); next = 2; held = []; know = [] }

-- a new session takes a Start alone
pub new_takes : map (λ sent. first_fault new_session.origin new_session.next sent) (sent 1 0 (Start Partial) ∷ sent 1 1 End ∷ []) ≡ None ∷ Some NotStart ∷ []
new_takes = refl

-- a bound one takes the next record of its stream alone: another stream is told before another index
pub bound_takes : map (λ sent. first_fault bound.origin bound.next sent) (sent 1 2 End ∷ sent 3 5 End ∷ sent 1 1 End ∷ sent 1 3 End ∷ sent 1 0 (Start Full) ∷ []) ≡ None ∷ Some OtherStream ∷ Some Repeated ∷ Some Gap ∷ Some Repeated ∷ []
bound_takes = refl

-- the sessions 1 and 2 are open, and the second is the bound one
abbrev sessions : Table Session
sessions = with_opened (with_opened empty_table new_session) bound

-- a record is taken by the session of its header, and the other stays
pub taken_by_its_session : with_taken (sent 1 2 (Held (upto 0 1 ∷ []))) sessions ≡ with_opened (with_opened empty_table new_session) (record bound { next = 3; held = (upto 0 1 ∷ []) ∷ [] })
taken_by_its_session = refl

-- ---- what a stream draws

-- the one who asks selects all messages and claims nothing
abbrev asked : Asked
asked = record { target = 9; session = 2; filter = record { all_labels = []; no_labels = []; flags_on = 0; flags_off = 0; since = 0 } ∷ []; claims = [] }

-- 1.1 is a head, and 0.7 was pushed out
abbrev store : Holdings
store = record { heads = rev (name 1 1) ∷ []; push_outs = rev (name 0 7) ∷ []; head_room = None; push_out_room = None }

abbrev begun : Mode → Option Name → Stream
begun mode past = record (new_stream asked mode []) { next = 1; past = past }

-- the first record tells the mode, and the walk has not begun
pub draws_start : Draws (new_stream asked Partial []) store (Start Partial) (new_stream asked Partial [])
draws_start = (refl, refl)

-- the walk begins with the lower version, head or push-out, and goes on from there
pub draws_first : Draws (begun Full None) store (Item (rev (name 0 7))) (begun Full (Some (name 0 7)))
draws_first = (refl, refl)

-- then comes the head
pub draws_second : Draws (begun Full (Some (name 0 7))) store (Item (rev (name 1 1))) (begun Full (Some (name 1 1)))
draws_second = (refl, refl)

-- a partial stream ends where nothing more is due: no Held and no Know
pub draws_partial_end : Draws (begun Partial (Some (name 1 1))) store End (begun Partial (Some (name 1 1)))
draws_partial_end = (refl, refl)

-- a vector that is still to give comes before the fragments, and before a head that is due
pub draws_held : Draws (record (begun Full None) { held = Some ((upto 1 1 ∷ []) ∷ []); know = claims }) store (Held (upto 1 1 ∷ [])) (record (begun Full None) { held = Some []; know = claims })
draws_held = (refl, refl)

-- a record has the stream's number and next index, and goes to the session that asked
pub gives_first : Gives 0 4 (begun Full None) store (record { header = record { source = 0; stream = 4; target = 9; session = 2; index = 1 }; body = Item (rev (name 0 7)) }) (record (begun Full (Some (name 0 7))) { next = 2 })
gives_first = (begun Full (Some (name 0 7)), (refl, refl), refl, refl)

-- a stream is closed with its End
pub closed_by_end : GivesIn 0 1 (with_opened empty_table (begun Partial (Some (name 1 1)))) store (sent 1 1 End) (record { opened = 1; open_ones = [] })
closed_by_end = (begun Partial (Some (name 1 1)), record (begun Partial (Some (name 1 1))) { next = 2 }, refl, (begun Partial (Some (name 1 1)), (refl, refl), refl, refl), refl)

-- ---- how a stream goes on

-- the streams 1 and 2, of which the first has two vectors still to give
abbrev streams : Table Stream
streams = with_opened (with_opened empty_table (record (begun Full None) { held = Some ([] ∷ (upto 0 1 ∷ []) ∷ []) })) (begun Partial None)

-- behind a Held one vector less is to give, and the index is the next
pub behind_held : advanced 1 onward.BehindHeld streams ≡ with_opened (with_opened empty_table (record (begun Full None) { next = 2; held = Some ((upto 0 1 ∷ []) ∷ []) })) (begun Partial None)
behind_held = refl

-- behind an Item the walk is past its version
pub behind_item : advanced 2 (onward.Past (name 0 7)) streams ≡ with_opened (with_opened empty_table (record (begun Full None) { held = Some ([] ∷ (upto 0 1 ∷ []) ∷ []) })) (record (begun Partial (Some (name 0 7))) { next = 2 })
behind_item = refl

-- behind its End a stream is closed, and its number is not given again
pub behind_end : advanced 2 onward.Closed streams ≡ with_closed streams 2
behind_end = refl

-- where no such stream is open nothing changes
pub behind_none : advanced 3 onward.Closed streams ≡ streams
behind_none = refl

-- ---- slots

abbrev numbered : (number : ℕ) → Name → Numbered Name
numbered number value = record { number = number; value = value }

-- values stand by their numbers, whatever slots they are in, and empty slots count for nothing
pub in_order_of_numbers : by_number (Some (record { number = 3; value = name 0 3 }) ∷ None ∷ Some (record { number = 1; value = name 0 1 }) ∷ []) ≡ numbered 1 (name 0 1) ∷ numbered 3 (name 0 3) ∷ []
in_order_of_numbers = refl

-- a value is found by its number, and not by its slot
pub found_by_number : map (value_in (Some (record { number = 3; value = name 0 3 }) ∷ None ∷ [])) (0 ∷ 1 ∷ 3 ∷ []) ≡ None ∷ None ∷ Some (name 0 3) ∷ []
found_by_number = refl
