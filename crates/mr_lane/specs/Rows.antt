-- worked rows: what the definitions give for small values
use Rattle.std.specs.Prelude.{◌≡◌, ℕ, Bool, true, false, List, [], ◌∷◌, ◌++◌, length, map, refl}
use Rattle.std.proofs.Common.{true≢false, sym, arith}
use Rattle.atomic_table.specs.Seated.{TableId}
use Rattle.mr_lane.specs.declared.piece.Piece.{Piece}
use Rattle.mr_lane.specs.declared.piece.Piece.TheVariants.{Item, End}
use Rattle.mr_lane.specs.declared.note.Sender.{Sender}
use Rattle.mr_lane.specs.declared.note.Sender.TheVariants.{User, FirstLink, SecondLink}
use Rattle.mr_lane.specs.declared.note.Note.{Note}
use Rattle.mr_lane.specs.declared.arrival.Arrival.TheVariants as arrival
use Rattle.mr_lane.specs.declared.fault.SendFault.TheVariants as send
use Rattle.mr_lane.specs.declared.tap_ends.Drawn.TheVariants as drawn
use Rattle.mr_lane.specs.Piece.{pieces, items_of, has_end}
use Rattle.mr_lane.specs.Note.{pieces_by}
use Rattle.mr_lane.specs.Letters.{letters_in, letters_by}
use Rattle.mr_lane.specs.Desk.{new_desk, with_note, Arrives, has_finished, have_all_finished}
use Rattle.mr_lane.specs.inner.Desk.{with_mark}
use Rattle.mr_lane.specs.Post.{PostView, with_letter, with_end_mark, ReturnsLetter}
use Rattle.mr_lane.specs.Inbox.{IsAllOf}
use Rattle.mr_lane.specs.Tap.{TapEnd, new_end, with_item, with_end, HandsBack, Draws}
use Rattle.mr_lane.specs.TapPort.{Passed}

-- ---- pieces

-- items that go on are pieces, one for one
pub going_on : pieces {T = ℕ} (5 ∷ 6 ∷ []) false ≡ Item 5 ∷ Item 6 ∷ []
going_on = refl

-- where they have ended the end mark comes last
pub ended : pieces {T = ℕ} (5 ∷ 6 ∷ []) true ≡ Item 5 ∷ Item 6 ∷ End ∷ []
ended = refl

-- no items that have ended are an end mark alone
pub ended_at_once : pieces {T = ℕ} [] true ≡ End ∷ []
ended_at_once = refl

-- the items alone leave the end mark out
pub items_alone : items_of {T = ℕ} (Item 5 ∷ Item 6 ∷ End ∷ []) ≡ 5 ∷ 6 ∷ []
items_alone = refl

-- the end mark is there or not, whatever items are
pub which_have_ended : map (has_end {T = ℕ}) ((Item 5 ∷ End ∷ []) ∷ (Item 5 ∷ []) ∷ [] ∷ []) ≡ true ∷ false ∷ false ∷ []
which_have_ended = refl

-- ---- notes of all senders

abbrev note : Sender → Piece ℕ → Note ℕ
note sender piece = record { sender = sender; piece = piece }

-- the user sent 5 and ended, and between them the first link sent 6
abbrev notes : List (Note ℕ)
notes = note User (Item 5) ∷ note FirstLink (Item 6) ∷ note User End ∷ []

-- each sender's pieces are in its order, without those of the others
pub pieces_of_each : map (λ number. pieces_by number notes) (0 ∷ 1 ∷ 2 ∷ []) ≡ (Item 5 ∷ End ∷ []) ∷ (Item 6 ∷ []) ∷ [] ∷ []
pieces_of_each = refl

-- a number that no sender has sent nothing
pub pieces_of_nobody : pieces_by 3 notes ≡ []
pieces_of_nobody = refl

-- the letters are those that were sent, each with its sender; end marks are none
pub letters_alone : letters_in notes ≡ (User, 5) ∷ (FirstLink, 6) ∷ []
letters_alone = refl

-- a sender's letters are in its order, without those of the others
pub letters_of_each : map (λ sender. letters_by {T = ℕ} sender ((User, 5) ∷ (FirstLink, 6) ∷ (User, 7) ∷ [])) (User ∷ FirstLink ∷ SecondLink ∷ []) ≡ (5 ∷ 7 ∷ []) ∷ (6 ∷ []) ∷ [] ∷ []
letters_of_each = refl

-- an end mark finishes its own sender alone
pub who_has_finished : map (has_finished notes) (User ∷ FirstLink ∷ SecondLink ∷ []) ≡ true ∷ false ∷ false ∷ []
who_has_finished = refl

-- all have finished once each has
pub two_are_not_all : have_all_finished (note User End ∷ note SecondLink End ∷ []) ≡ false
two_are_not_all = refl

-- in whatever order they came
pub three_are_all : have_all_finished (note User End ∷ note SecondLink End ∷ note FirstLink End ∷ []) ≡ true
three_are_all = refl

-- a mark stays as others come
pub marks_add_up : with_mark (with_mark (record { user = false; first_link = false; second_link = false }) SecondLink) User ≡ record { user = true; first_link = false; second_link = true }
marks_add_up = refl

-- ---- desks

-- a letter that arrives comes behind what was taken, with its sender
pub letter_arrives : (id : TableId) → Arrives (with_note (new_desk id 2) (note User (Item 5))) (arrival.Letter FirstLink 6) (record { id = id; capacity = 2; taken = note User (Item 5) ∷ note FirstLink (Item 6) ∷ [] })
letter_arrives id = refl

-- an end mark that arrives is noted as well
pub end_arrives : (id : TableId) → Arrives (new_desk {T = ℕ} id 2) (arrival.End User) (record { id = id; capacity = 2; taken = note User End ∷ [] })
end_arrives id = refl

-- ---- posts

-- the user's post of an inbox of two places, which has sent these letters
abbrev post : TableId → List ℕ → (finished : Bool) → PostView ℕ
post id sent finished = record { id = id; capacity = 2; sender = User; sent = sent; finished = finished }

-- a letter is sent behind the others
pub sent_behind : (id : TableId) → with_letter (post id (5 ∷ []) false) 6 ≡ post id (5 ∷ 6 ∷ []) false
sent_behind id = refl

-- the end mark is no letter
pub end_is_no_letter : (id : TableId) → with_end_mark (post id (5 ∷ []) false) ≡ post id (5 ∷ []) true
end_is_no_letter id = refl

-- an unfinished post returns the very letter, and as full alone
pub returned_as_full : (id : TableId) → ReturnsLetter (post id (5 ∷ 6 ∷ []) false) 7 (send.Full 7)
returned_as_full id = (refl, refl)

pub returns_no_other_letter : (id : TableId) → ¬ ReturnsLetter (post id (5 ∷ 6 ∷ []) false) 7 (send.Full 6)
returns_no_other_letter id given = absurd (omega (arith, given.0))

-- a finished post returns each letter as ended
pub returned_as_ended : (id : TableId) → ReturnsLetter (post id (5 ∷ []) true) 7 (send.Ended 7)
returned_as_ended id = (refl, refl)

-- and never as full
pub finished_is_not_full : (id : TableId) → ¬ ReturnsLetter (post id (5 ∷ []) true) 7 (send.Full 7)
finished_is_not_full id given = true≢false given.1

-- what the desk took of a post that has finished is all of it, whatever it took of the others
pub took_all : (id : TableId) → IsAllOf notes (post id (5 ∷ []) true)
took_all id = record { finished = refl; in_order = refl }

-- a post that has not finished is never taken in whole
pub took_some : (id : TableId) → ¬ IsAllOf notes (post id (5 ∷ []) false)
took_some id given = true≢false (sym given.finished)

-- ---- the ends of a tap

-- an end of a tap of one place, which these items have passed
abbrev tap_end : TableId → List ℕ → (closed : Bool) → TapEnd ℕ
tap_end id passed closed = record { id = id; capacity = 1; passed = passed; closed = closed }

-- an item passes behind the others, and the end mark is no item
pub passes_behind : (id : TableId) → with_end (with_item (with_item (new_end id 1) 5) 6) ≡ tap_end id (5 ∷ 6 ∷ []) true
passes_behind id = refl

-- a tap was full where as many of the last items waited as it has places
pub handed_back_as_full : (id : TableId) → HandsBack (tap_end id (5 ∷ 6 ∷ []) false) 7 (send.Full 7)
handed_back_as_full id = (refl, refl, (5 ∷ [], 6 ∷ [], refl, refl))

-- a tap that nothing was offered to was never full
pub new_is_not_full : (id : TableId) → ¬ HandsBack (tap_end id [] false) 7 (send.Full 7)
new_is_not_full id given = too_few given.2.0 given.2.1 given.2.2 given.2.3
  where
    too_few : (gone waiting : List ℕ) → [] ≡ gone ++ waiting → ¬ (length waiting ≡ 1)
    too_few [] [] e one = absurd (cc)
    too_few [] (x ∷ waiting) e one = absurd (cc)
    too_few (x ∷ gone) waiting e one = absurd (cc)

-- a closed end hands back each item as ended
pub handed_back_as_ended : (id : TableId) → HandsBack (tap_end id (5 ∷ 6 ∷ []) true) 7 (send.Ended 7)
handed_back_as_ended id = (refl, refl)

-- what is drawn has passed the end that draws
pub drawn_item : (id : TableId) → Draws (tap_end id (5 ∷ []) false) (drawn.Item 6) (tap_end id (5 ∷ 6 ∷ []) false)
drawn_item id = (refl, refl)

-- nothing is drawn as an item once the end is closed
pub nothing_behind_the_end : (id : TableId) → ¬ Draws (tap_end id (5 ∷ []) true) (drawn.Item 6) (tap_end id (5 ∷ 6 ∷ []) true)
nothing_behind_the_end id given = true≢false given.0

-- an end that is closed stays so
pub closed_for_good : (id : TableId) → Draws (tap_end id (5 ∷ []) true) drawn.Closed (tap_end id (5 ∷ []) true)
closed_for_good id = refl

-- just the items behind those that had passed have passed between two states
pub passed_between : (id : TableId) → Passed (tap_end id (5 ∷ []) false) (6 ∷ 7 ∷ []) (tap_end id (5 ∷ 6 ∷ 7 ∷ []) true)
passed_between id = (refl, refl, refl)
