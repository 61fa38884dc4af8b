-- the ends of a tap as contracts see them, and what their calls do
use Rattle.std.specs.Prelude.{◌≡◌, ℕ, Bool, true, false, List, [], ◌∷◌, ◌++◌, length}
use Rattle.atomic_table.specs.Seated.{TableId}
use Rattle.crossbeam_queue.specs.Passes.{Pass, view}
use Rattle.mr_lane.specs.declared.piece.Piece.{Piece}
use Rattle.mr_lane.specs.declared.tap_rule.TapSight.{TapSight}
use Rattle.mr_lane.specs.Piece.{pieces, items_of}
use Rattle.mr_lane.specs.declared.fault.SendFault.{SendFault}
use Rattle.mr_lane.specs.declared.fault.SendFault.TheVariants as send
use Rattle.mr_lane.specs.declared.tap_ends.Drawn.{Drawn}
use Rattle.mr_lane.specs.declared.tap_ends.Drawn.TheVariants as drawn

-- an end of a tap: which tap it is of, how many places that has, the items that passed this end in order, and whether the end mark passed it
pub record TapEnd (T : Type 0) : Type 0 where
  pub id : TableId
  pub capacity : ℕ
  pub passed : List T
  pub closed : Bool

module _ {T : Type 0} where
  -- an end that nothing has passed
  abbrev pub new_end : TableId → ℕ → TapEnd T
  new_end id capacity = record { id = id; capacity = capacity; passed = []; closed = false }

  -- one item more has passed
  abbrev pub with_item : TapEnd T → T → TapEnd T
  with_item e x = record e { passed = e.passed ++ x ∷ [] }

  -- the end mark has passed
  abbrev pub with_end : TapEnd T → TapEnd T
  with_end e = record e { closed = true }

  -- at one moment as many waited as there are places: the last of what was offered
  abbrev pub WasFull : TapEnd T → Type 0
  WasFull e = (gone : List T) × (waiting : List T) × (e.passed ≡ gone ++ waiting) × (length waiting ≡ e.capacity)

  -- an offer comes back as Ended where this end was closed, and else as Full where the tap was full
  abbrev pub HandsBack : TapEnd T → T → SendFault T → Type 0
  HandsBack e x (send.Ended y) = (y ≡ x) × (e.closed ≡ true)
  HandsBack e x (send.Full y) = (y ≡ x) × (e.closed ≡ false) × WasFull e

  -- a take gives one item more, or finds nothing; or it says that the tap is closed, and then nothing comes any more
  abbrev pub Draws : TapEnd T → Drawn T → TapEnd T → Type 0
  Draws e (drawn.Item x) f = (e.closed ≡ false) × (f ≡ with_item e x)
  Draws e drawn.Empty f = (e.closed ≡ false) × (f ≡ e)
  Draws e drawn.Closed f = f ≡ with_end e

  -- ---- below the ends

  -- a sight that offers, of items in order, and of the end mark last where they have ended
  pub record IsOfferer (s : TapSight T) (closed : Bool) : Type 0 where
    pub offers : s.offers ≡ true
    pub in_order : s.offered ≡ pieces (items_of s.offered) closed

  -- a sight that takes, of items in order, and of the end mark last where they have ended
  pub record IsTaker (s : TapSight T) (closed : Bool) : Type 0 where
    pub takes : s.takes ≡ true
    pub in_order : s.taken ≡ pieces (items_of s.taken) closed

  -- what a pass knows
  abbrev pub tap_sight_of : Pass (Piece T) (TapSight T) → TapSight T
  tap_sight_of p = view p
