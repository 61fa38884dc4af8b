-- worked rows: what the definitions give for small values
use Rattle.std.specs.Prelude.{◌≡◌, ℕ, Bool, true, false, List, [], ◌∷◌, map, Some, Ok, Err, refl}
use Rattle.std.proofs.Common.{true≢false}
use Rattle.mr_version.specs.Name.{Name}
use Rattle.mr_mail.specs.Mail.{MailCard}
use Rattle.mr_model.specs.Headline.{fold}
use Rattle.mr_feed.specs.declared.entry.Entry.{Entry}
use Rattle.mr_feed.specs.declared.entry.Entry.TheVariants.{Added, Dropped}
use Rattle.mr_feed.specs.declared.port.Taken.TheVariants as taken
use Rattle.mr_feed.specs.declared.port_fault.OfferFault.TheVariants as offer
use Rattle.mr_feed.specs.declared.port_fault.CloseFault.TheVariants as close
use Rattle.mr_feed.specs.Entry.{told, entry_item, entry_version}
use Rattle.mr_feed.specs.Fold.{with_card}
use Rattle.mr_feed.specs.Port.{Offers, Closes, Takes, Move, Gave, Took, all_offered, all_taken, Leads}
use Rattle.mr_feed.specs.PlainPort.{PortView, plain_gave, plain_took, plain_ended, plain_full, plain_done, plain_empty}

abbrev name : ℕ → ℕ → Name
name author counter = record { author = author; counter = counter }

-- the card of a message with no labels and these flags
abbrev card : ℕ → MailCard
card flags = record { labels = []; flags = flags; day = 0 }

-- that this version of the item 0.1 was added, and that it was dropped
abbrev adds : Name → Entry
adds version = Added (name 0 1) version (card 0)

abbrev drops : Name → Entry
drops version = Dropped (name 0 1) version

-- ---- entries

-- an entry's item is its message's first version, and its version need not be that
pub item_and_version : map entry_version (adds (name 1 3) ∷ drops (name 1 3) ∷ []) ≡ name 1 3 ∷ name 1 3 ∷ []
item_and_version = refl

-- both are of the item 0.1
pub items_of_both : map entry_item (adds (name 1 3) ∷ drops (name 1 3) ∷ []) ≡ name 0 1 ∷ name 0 1 ∷ []
items_of_both = refl

-- ---- the fold of a feed

-- an edit is added and what it supersedes is dropped: the item is left with one card
pub folded : map (with_card (fold (told (adds (name 0 1) ∷ adds (name 1 1) ∷ drops (name 0 1) ∷ [])))) (name 0 1 ∷ name 1 1 ∷ []) ≡ false ∷ true ∷ []
folded = refl

-- two versions of one item, which conflict, have a card each
pub folded_conflict : map (with_card (fold (told (adds (name 1 1) ∷ adds (name 2 1) ∷ [])))) (name 0 1 ∷ name 1 1 ∷ name 2 1 ∷ []) ≡ false ∷ true ∷ true ∷ []
folded_conflict = refl

-- what was dropped may be added again
pub folded_again : with_card (fold (told (adds (name 0 1) ∷ drops (name 0 1) ∷ adds (name 0 1) ∷ []))) (name 0 1) ≡ true
folded_again = refl

-- a later card of a version takes the place of the older one
pub later_card : fold (told (Added (name 0 1) (name 0 1) (card 1) ∷ Added (name 0 1) (name 0 1) (card 2) ∷ [])) (name 0 1) ≡ Some (card 2)
later_card = refl

-- no entries leave no cards
pub folded_nothing : with_card (fold (told [])) (name 0 1) ≡ false
folded_nothing = refl

-- ---- what a port answers

abbrev first : Entry
first = adds (name 0 1)

abbrev second : Entry
second = adds (name 0 2)

-- a port of one place
abbrev port : List Entry → (closed : Bool) → PortView
port waiting closed = record { waiting = waiting; capacity = 1; closed = closed }

-- a port with room takes the entry behind what waits
pub offered : Offers plain_gave plain_ended plain_full (port [] false) first (Ok tt) (port (first ∷ []) false)
offered = ((refl, refl), refl, refl)

-- a full port hands the entry back, and nothing has changed
pub offered_to_full : Offers plain_gave plain_ended plain_full (port (first ∷ []) false) second (Err (offer.Full second)) (port (first ∷ []) false)
offered_to_full = (refl, refl, refl, refl)

-- a port that is full and closed answers that it is closed
pub offered_to_closed : Offers plain_gave plain_ended plain_full (port (first ∷ []) true) second (Err (offer.Ended second)) (port (first ∷ []) true)
offered_to_closed = (refl, refl, refl)

-- and never that it is full
pub closed_is_not_full : ¬ Offers plain_gave plain_ended plain_full (port (first ∷ []) true) second (Err (offer.Full second)) (port (first ∷ []) true)
closed_is_not_full given = true≢false given.2

-- a port with room never answers that it is full
pub room_is_not_full : ¬ Offers plain_gave plain_ended plain_full (port [] false) second (Err (offer.Full second)) (port [] false)
room_is_not_full given = absurd (cc)

-- a port that is closed may be closed again, though it is full
pub closed_twice : Closes plain_gave plain_ended plain_full (port (first ∷ []) true) (Ok tt) (port (first ∷ []) true)
closed_twice = ((refl, refl), refl)

-- a port that is full and not closed may refuse to be closed, and nothing has changed
pub close_of_full : Closes plain_gave plain_ended plain_full (port (first ∷ []) false) (Err close.Full) (port (first ∷ []) false)
close_of_full = (refl, refl, refl)

-- what waits in a closed port is still taken
pub taken_from_closed : Takes plain_took plain_done plain_empty (port (first ∷ []) true) (taken.Entry first) (port [] true)
taken_from_closed = ((refl, refl, refl), refl)

-- once nothing waits a closed port answers that it is closed
pub taken_at_the_end : Takes plain_took plain_done plain_empty (port [] true) taken.Closed (port [] true)
taken_at_the_end = ((refl, refl, refl), refl)

-- an empty port that is not closed answers that it is empty
pub taken_from_empty : Takes plain_took plain_done plain_empty (port [] false) taken.Empty (port [] false)
taken_from_empty = (refl, refl, (refl, refl))

-- a closed port with an entry that waits is not done
pub not_done : map plain_done (port (first ∷ []) true ∷ port [] true ∷ port [] false ∷ []) ≡ false ∷ true ∷ false ∷ []
not_done = refl

-- ---- runs of calls

-- two entries were offered, and the first of them was taken in between
abbrev moves : List Move
moves = Gave (first ∷ []) ∷ Took (first ∷ []) ∷ Gave (second ∷ []) ∷ []

-- what was offered, in order, whatever was taken between
pub moves_offered : all_offered moves ≡ first ∷ second ∷ []
moves_offered = refl

-- what was taken, in order
pub moves_taken : all_taken moves ≡ first ∷ []
moves_taken = refl

-- they leave the second to wait
pub moves_lead : Leads plain_gave plain_took (port [] false) moves (port (second ∷ []) false)
moves_lead = (port (first ∷ []) false, (refl, refl), (port [] false, (refl, refl, refl), (port (second ∷ []) false, (refl, refl), refl)))
