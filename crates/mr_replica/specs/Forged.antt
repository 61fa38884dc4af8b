-- Records that no replica gave: they tell of own versions that were not issued, or of a held version as one of another item.
use Rattle.std.specs.Prelude.{◌==◌, Bool, false, not, ◌&&◌, ◌||◌, nat_lt, List}
use Rattle.std.specs.List.{list_any}
use Rattle.std.specs.Option.{option_map_or}
use Rattle.mr_version.specs.Name.{Name, name_eq}
use Rattle.mr_concise.specs.declared.vector.AuthorColumn.{AuthorColumn}
use Rattle.mr_concise.specs.Vector.{column_of}
use Rattle.mr_madewith.specs.Revision.{Rev}
use Rattle.mr_wire.specs.Values.{DescentParts, Piece}
use Rattle.mr_wire.specs.declared.frame.Body.{Body}
use Rattle.mr_wire.specs.declared.frame.Body.TheVariants.{Start, Item, MoveOut, Held, Know, End}
use Rattle.mr_replica.specs.State.{State, held}

-- a revision without its message
abbrev pub line_of : Rev → DescentParts
line_of r = record { item = r.item; version = r.version; below = r.below }

module _ {K : Type 0} where
  -- an own version that was not issued
  abbrev pub is_early : State K → Name → Bool
  is_early s v = (v.author == s.id) && nat_lt s.issued v.counter

  -- the highest own version of the vector was not issued
  abbrev pub has_early : State K → List AuthorColumn → Bool
  has_early s vector = nat_lt s.issued (column_of vector s.id).upto

  abbrev pub is_early_line : State K → DescentParts → Bool
  is_early_line s line = is_early s line.item || (is_early s line.version || has_early s line.below)

  abbrev pub is_early_piece : State K → Piece → Bool
  is_early_piece s piece = option_map_or (list_any (is_early s)) piece.items false || has_early s piece.vector

  -- the version is held as one of another item
  abbrev pub is_misfiled : State K → (item version : Name) → Bool
  is_misfiled s item version = option_map_or (λ r. not (name_eq r.item item)) (held s version) false

  abbrev pub is_forged : State K → Body → Bool
  is_forged s (Start mode) = false
  is_forged s (Item r) = is_early_line s (line_of r) || is_misfiled s r.item r.version
  is_forged s (MoveOut line) = is_early_line s line
  is_forged s (Held vector) = has_early s vector
  is_forged s (Know piece) = is_early_piece s piece
  is_forged s End = false
