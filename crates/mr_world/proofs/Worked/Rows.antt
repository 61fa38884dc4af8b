-- Worked rows of the definitions, computed.
use Rattle.std.proofs.Common.{◌≡◌, arith, ap, refl, true, false, ℕ, List, [], ◌∷◌, map, Some, None}
use Rattle.mr_world.proofs.Names.Wire.{Body, End, Full, Held, Know, Partial, Piece, Sent, Start}
use Rattle.mr_world.proofs.Names.Replica.{some_same}
use Rattle.mr_world.proofs.Names.Sessions.{after_record, new_session}
use Rattle.mr_world.proofs.Names.Mails.{Entry, Name, entry_version}
use Rattle.mr_world.proofs.Names.World.{Closed, Closes, Done, Empty, Follows, Full as PortFull, NothingNew, Offered, Offers, Port, Takes, TookEntry}
use Rattle.mr_world.proofs.Names.World.{Truncated, new_port, record_len, seen_answer, seen_body, seen_record, shown, told_pairs, with_close}
use Rattle.mr_world.proofs.Names.World.{with_offered, with_waiting}
use Rattle.mr_feed.specs.declared.entry.Entry.TheVariants.{Dropped}
use Rattle.mr_model.specs.History as model

abbrev one : Name
one = record { author = 0; counter = 1 }

abbrev two : Name
two = record { author = 0; counter = 2 }

-- ---- ports: a feed of two entries, and a port of one place

abbrev first : Entry
first = Dropped one one

abbrev second : Entry
second = Dropped two two

abbrev feed : List Entry
feed = first ∷ second ∷ []

abbrev holding_first : Port
holding_first = record { view = record { waiting = first ∷ []; capacity = 1; closed = false }; offered = 1 }

offered_row : with_offered (new_port 1) first ≡ holding_first
offered_row = refl

-- the feed's first entry is offered, not the second, nor is the feed at its end
offers_first : Offers feed (new_port 1) (Offered first) holding_first
offers_first = (refl, refl, (λ (full : 0 ≡ 1). absurd (omega arith)), refl)

not_second : (p : Port) → ¬ Offers feed (new_port 1) (Offered second) p
not_second p offers = grind (arith, entry_version, some_same)

not_at_end : (p : Port) → ¬ Offers feed (new_port 1) NothingNew p
not_at_end p offers = let none : Some first ≡ None = offers.1 in absurd (cc)

-- the second has no place while the first waits
full_row : Offers feed holding_first PortFull holding_first
full_row = (refl, (λ none. let some : Some second ≡ None = none in absurd (cc)), refl, refl)

not_past_full : (p : Port) → ¬ Offers feed holding_first (Offered second) p
not_past_full p offers = offers.2 refl

-- a closed port answers Closed, though it is full, and nothing else; what waits may still be taken
closed_row : Offers feed (with_close holding_first) Closed (with_close holding_first)
closed_row = (refl, refl)

closed_not_full : (p : Port) → ¬ Offers feed (with_close holding_first) PortFull p
closed_not_full p offers = let open_still : true ≡ false = offers.0 in absurd (cc)

taken_after_close : Takes (with_close holding_first) (TookEntry first) (with_waiting (with_close holding_first) [])
taken_after_close = ([], refl, refl)

closed_and_empty : Takes (with_waiting (with_close holding_first) []) Closed (with_waiting (with_close holding_first) [])
closed_and_empty = (refl, refl, refl)

empty_row : Takes (new_port 1) Empty (new_port 1)
empty_row = (refl, refl, refl)

closed_twice : Closes (with_close (new_port 1)) Done (with_close (new_port 1))
closed_twice = refl

-- ---- what a history sees

-- a frame that is cut and a closed port are refusals, a close is done, and an entry that is taken is told
answers_seen : map (seen_answer []) (Truncated ∷ Closed ∷ Done ∷ TookEntry first ∷ []) ≡ model.Refused ∷ model.Refused ∷ model.Done ∷ model.TookEntry (model.Dropped one one) ∷ []
answers_seen = refl

-- ---- records of one stream: a Start, a fragment of what is known, and the end

abbrev sent : (index : ℕ) → Body → Sent
sent index body = record { header = record { source = 0; stream = 1; target = 1; session = 1; index = index }; body = body }

-- a frame of a Start has one byte more than one of an End: its mode
lengths : record_len (sent 0 (Start Full)) ∷ record_len (sent 4 End) ∷ [] ≡ 31 ∷ 30 ∷ []
lengths = refl

start_seen : seen_body (Start Partial) ≡ model.Start false
start_seen = refl

-- the version one is known for its item
abbrev known_one : Piece
known_one = record { items = Some (one ∷ []); vector = record { author = 0; column = record { upto = 1; holes = [] } } ∷ [] }

abbrev given : List Sent
given = sent 2 End ∷ sent 1 (Know known_one) ∷ sent 0 (Start Full) ∷ []

-- the first two records tell it of one, the first one alone does not, nor does another stream, and none tells two
told_row : told_pairs given 0 1 2 one one ∷ told_pairs given 0 1 1 one one ∷ told_pairs given 0 2 2 one one ∷ told_pairs given 0 1 2 one two ∷ [] ≡ true ∷ false ∷ false ∷ false ∷ []
told_row = refl

-- a fragment is not shown as held, and a vector of Held is
shown_row : shown given 0 1 2 one ∷ shown (sent 1 (Held known_one.vector) ∷ given) 0 1 2 one ∷ [] ≡ false ∷ true ∷ []
shown_row = refl

-- a session that took a Start is bound to its stream, and takes index 1 next
follows_start : Follows (after_record (sent 0 (Start Full)) new_session) (seen_record (sent 0 (Start Full)) ∷ [])
follows_start = record { mode = Full; origin = refl; next = refl; whole = refl; full = refl }
