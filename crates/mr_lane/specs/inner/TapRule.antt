-- the rule of a tap: what was taken, and then what waits, is what was offered
use Rattle.std.specs.Prelude.{◌≡◌, ℕ, Bool, true, List, ◌++◌}
use mathlib.Core.Option.{some}
use lib.ListN.{get_elem?}
use Rattle.mr_lane.specs.declared.piece.Piece.{Piece}
use Rattle.mr_lane.specs.declared.tap_rule.TapSight.{TapSight}

module _ {T : Type 0} where
  abbrev pub tap_sight : Bool → Bool → List (Piece T) → List (Piece T) → TapSight T
  tap_sight offers takes offered taken = record { offers = offers; takes = takes; offered = offered; taken = taken }

  -- one pass at most offers, and it knows all that was offered; one at most takes, and it knows all that was taken; of a spent pass, which does neither, nothing is said
  abbrev pub KnowsItsSide : ℕ → ℕ → List (Piece T) → List (Piece T) → ℕ → TapSight T → Type 0
  KnowsItsSide offerer taker offered taken pass s = (s.offers ≡ true → (pass ≡ offerer) × (s.offered ≡ offered)) × (s.takes ≡ true → (pass ≡ taker) × (s.taken ≡ taken))

  abbrev pub FlowsInOrder : List (Piece T) → List (TapSight T) → Type 0
  FlowsInOrder waiting sights =
      (offerer : ℕ) × (taker : ℕ) × (offered : List (Piece T)) × (taken : List (Piece T)) × (offered ≡ taken ++ waiting)
      × ((pass : ℕ) (s : TapSight T) → get_elem? sights pass ≡ some s → KnowsItsSide offerer taker offered taken pass s)
