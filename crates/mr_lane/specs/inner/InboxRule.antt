-- the rule of an inbox: of each sender, what was taken, and then what waits, is what it sent
use Rattle.std.specs.Prelude.{◌≡◌, ℕ, ◌+◌, ◌<◌, ◌≤◌, true, false, List, [], ◌∷◌, ◌++◌}
use mathlib.Core.Option.{Option, none, some}
use lib.ListN.{get_elem?}
use Rattle.mr_lane.specs.declared.piece.Piece.{Piece}
use Rattle.mr_lane.specs.declared.note.Note.{Note}
use Rattle.mr_lane.specs.declared.inbox_rule.InboxSight.{InboxSight}
pub use Rattle.mr_lane.specs.Note.{pieces_by}

module _ {T : Type 0} where
  -- the sight of the pass that takes
  abbrev pub taker_sight : List (Note T) → ℕ → List (List (Piece T)) → InboxSight T
  taker_sight taken made heard_out = record { sends = false; number = 0; sent = []; takes = true; taken = taken; made = made; heard_out = heard_out }

  -- the sight of a pass that sends
  abbrev pub sender_sight : ℕ → List (Piece T) → InboxSight T
  sender_sight number sent = record { sends = true; number = number; sent = sent; takes = false; taken = []; made = 0; heard_out = [] }

  -- the sight of a spent pass
  abbrev pub spent_sight : InboxSight T
  spent_sight = record { sends = false; number = 0; sent = []; takes = false; taken = []; made = 0; heard_out = [] }

  abbrev pub with_sender : InboxSight T → InboxSight T
  with_sender s = taker_sight s.taken (s.made + 1) s.heard_out

  abbrev pub with_heard : InboxSight T → InboxSight T → InboxSight T
  with_heard s t = taker_sight s.taken s.made (s.heard_out ++ t.sent ∷ [])

  abbrev pub with_sent : InboxSight T → Piece T → InboxSight T
  with_sent s piece = sender_sight s.number (s.sent ++ piece ∷ [])

  abbrev pub with_taken : InboxSight T → Note T → InboxSight T
  with_taken s note = taker_sight (s.taken ++ note ∷ []) s.made s.heard_out

  -- each sender has one pass at most, its seat, and that pass knows what was sent
  abbrev pub KnowsItsSent : (ℕ → Option ℕ) → (ℕ → List (Piece T)) → ℕ → InboxSight T → Type 0
  KnowsItsSent seat sent pass s = s.sends ≡ true → (seat s.number ≡ some pass) × (s.sent ≡ sent s.number)

  -- one pass at most takes: it knows what was taken, that a sender not yet made has no seat and has sent nothing, and what each that it heard out has sent in all
  abbrev pub KnowsItsTaken : ℕ → (ℕ → Option ℕ) → (ℕ → List (Piece T)) → List (Note T) → ℕ → InboxSight T → Type 0
  KnowsItsTaken taker seat sent taken pass s =
      s.takes ≡ true
      → (pass ≡ taker) × (s.taken ≡ taken)
      × ((number : ℕ) → s.made ≤ number → (seat number ≡ none) × (sent number ≡ []))
      × ((number : ℕ) (all : List (Piece T)) → get_elem? s.heard_out number ≡ some all → (number < s.made) × (seat number ≡ none) × (all ≡ sent number))

  abbrev pub KnowsItsPart : ℕ → (ℕ → Option ℕ) → (ℕ → List (Piece T)) → List (Note T) → ℕ → InboxSight T → Type 0
  KnowsItsPart taker seat sent taken pass s = KnowsItsSent seat sent pass s × KnowsItsTaken taker seat sent taken pass s

  -- for each sender, what was taken of it, and then what waits of it, is what it sent; and each pass knows its part
  abbrev pub DeliversInOrder : List (Note T) → List (InboxSight T) → Type 0
  DeliversInOrder waiting sights =
      (taker : ℕ) × (seat : ℕ → Option ℕ) × (sent : ℕ → List (Piece T)) × (taken : List (Note T))
      × ((number : ℕ) → pieces_by number (taken ++ waiting) ≡ sent number)
      × ((pass : ℕ) (s : InboxSight T) → get_elem? sights pass ≡ some s → KnowsItsPart taker seat sent taken pass s)

  -- of each sender that was heard out, what was taken, and then what waits, is what it sent
  abbrev pub AccountsForAll : InboxSight T → List (Note T) → Type 0
  AccountsForAll s waiting = (number : ℕ) (all : List (Piece T)) → get_elem? s.heard_out number ≡ some all → pieces_by number (s.taken ++ waiting) ≡ all
