-- what goes through a lane: items, and behind the last one the end mark
use Rattle.std.specs.Prelude.{Bool, true, false, cond, List, [], ◌∷◌}
use Rattle.mr_lane.specs.declared.piece.Piece.{Piece}
use Rattle.mr_lane.specs.declared.piece.Piece.TheVariants.{Item, End}

module _ {T : Type 0} where
  -- these items in order, and the end mark last, where they have ended
  abbrev pub pieces : List T → Bool → List (Piece T)
  pieces [] ended = cond ended (End ∷ []) []
  pieces (x ∷ xs) ended = Item x ∷ pieces xs ended

  -- the items alone
  abbrev pub items_of : List (Piece T) → List T
  items_of [] = []
  items_of (Item x ∷ ps) = x ∷ items_of ps
  items_of (End ∷ ps) = items_of ps

  -- whether the end mark is there
  abbrev pub has_end : List (Piece T) → Bool
  has_end [] = false
  has_end (Item x ∷ ps) = has_end ps
  has_end (End ∷ ps) = true
