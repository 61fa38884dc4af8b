-- The parts of a knowledge, as frames carry them.
use Rattle.std.specs.Prelude.{◌≡◌, List}
use Rattle.std.specs.List.{AllZip}
use Rattle.mr_forms.specs.Known.{Part}
use Rattle.mr_forms.specs.Parts.{ArePartsThat}
use Rattle.mr_concise.specs.Vector.{IsVectorOf}
use Rattle.mr_wire.specs.Values.{Piece}

-- the items of the part, with the vector of its versions: a part has one piece at most
pub record IsPieceOf (part : Part) (piece : Piece) : Type 0 where
  pub items : piece.items ≡ part.items
  pub versions : IsVectorOf part.versions piece.vector

-- the pieces of all the parts, in their order: there is one such list at most
pub record ArePiecesOf (is_part : Part → Type 0) (pieces : List Piece) : Type 0 where
  pub parts : List Part
  pub are_parts : ArePartsThat is_part parts
  pub by_part : AllZip IsPieceOf parts pieces
