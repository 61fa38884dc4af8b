-- what a call of a half of a port does, by the members of its trait
use Rattle.std.specs.Prelude.{◌≡◌, Bool, IsTrue, IsFalse, List, [], ◌∷◌, ◌++◌, Result, Ok, Err}
use Rattle.mr_feed.specs.declared.entry.Entry.{Entry}
use Rattle.mr_feed.specs.declared.port.Taken.{Taken}
use Rattle.mr_feed.specs.declared.port.Taken.TheVariants as taken
use Rattle.mr_feed.specs.declared.port_fault.OfferFault.{OfferFault}
use Rattle.mr_feed.specs.declared.port_fault.OfferFault.TheVariants as offer
use Rattle.mr_feed.specs.declared.port_fault.CloseFault.{CloseFault}
use Rattle.mr_feed.specs.declared.port_fault.CloseFault.TheVariants as close

module _ {S : Type 0} (gave : S → List Entry → S → Type 0) (is_ended : S → Bool) (was_full : S → Type 0) where
  -- an offer gives the entry; or it hands it back and changes nothing, as Ended where the half was closed, and as Full only where it was not closed and the port was full
  abbrev pub Offers : S → Entry → Result (Unit {0}) OfferFault → S → Type 0
  Offers s x (Ok _) t = gave s (x ∷ []) t × IsFalse (is_ended s) × IsFalse (is_ended t)
  Offers s x (Err (offer.Full y)) t = (y ≡ x) × (t ≡ s) × IsFalse (is_ended s) × was_full s
  Offers s x (Err (offer.Ended y)) t = (y ≡ x) × (t ≡ s) × IsTrue (is_ended s)

  -- a close gives no entry and ends the half; or it changes nothing, where the half was not closed and the port was full
  abbrev pub Closes : S → Result (Unit {0}) CloseFault → S → Type 0
  Closes s (Ok _) t = gave s [] t × IsTrue (is_ended t)
  Closes s (Err close.Full) t = (t ≡ s) × IsFalse (is_ended s) × was_full s

module _ {S : Type 0} (took : S → List Entry → S → Type 0) (is_done : S → Bool) (was_empty : S → Type 0) where
  -- a take takes one entry; or none, and answers Empty only where nothing waited and the half is not done, and Closed where it is done
  abbrev pub Takes : S → Taken → S → Type 0
  Takes s (taken.Entry x) t = took s (x ∷ []) t × IsFalse (is_done s)
  Takes s taken.Empty t = (t ≡ s) × IsFalse (is_done s) × was_empty s
  Takes s taken.Closed t = took s [] t × IsTrue (is_done t)

-- the entry that a take gave, if it gave one
abbrev pub taken_entries : Taken → List Entry
taken_entries (taken.Entry x) = x ∷ []
taken_entries taken.Empty = []
taken_entries taken.Closed = []

-- ---- runs of calls of a port

-- what a call passed on: entries that were offered, or entries that were taken
pub data Move : Type 0 where
  Gave : List Entry → Move
  Took : List Entry → Move

abbrev pub all_offered : List Move → List Entry
all_offered [] = []
all_offered (Gave xs ∷ moves) = xs ++ all_offered moves
all_offered (Took xs ∷ moves) = all_offered moves

abbrev pub all_taken : List Move → List Entry
all_taken [] = []
all_taken (Gave xs ∷ moves) = all_taken moves
all_taken (Took xs ∷ moves) = xs ++ all_taken moves

-- the moves lead from s to t
abbrev pub Leads : {S : Type 0} → (gave took : S → List Entry → S → Type 0) → S → List Move → S → Type 0
Leads gave took s [] t = t ≡ s
Leads {S} gave took s (Gave xs ∷ moves) t = (u : S) × gave s xs u × Leads gave took u moves t
Leads {S} gave took s (Took xs ∷ moves) t = (u : S) × took s xs u × Leads gave took u moves t
