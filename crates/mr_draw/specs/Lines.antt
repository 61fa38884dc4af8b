-- the lines of the lanes
use Rattle.std.specs.Prelude.{ℕ, ◌==◌, ◌&&◌, Bool, true, false, unwrap_or, position, length, List, [], ◌∷◌, ◌++◌, codes}
use Rattle.std.specs.Fmt.{decimal}
use Rattle.mr_draw.specs.Happened.{Happened}
use Rattle.mr_draw.specs.Look.{plain_look}
use Rattle.mr_draw.specs.MarkView.{MarkView}
use Rattle.mr_draw.specs.declared.happening.Kind.{Kind}
use Rattle.mr_draw.specs.declared.happening.Kind.TheVariants.{Retire}
use Rattle.mr_draw.specs.declared.mark.Shape.{Shape}
use Rattle.mr_draw.specs.declared.mark.Shape.TheVariants.{Lane, Thin}

-- a line along a lane between two rows: nothing is written at it, and it tells whose lane it is
abbrev pub line_at : (lane : ℕ) → Shape → (row last_row : ℕ) → MarkView
line_at lane shape row last_row = record {
  lane = lane;
  row = row;
  other_lane = lane;
  last_row = last_row;
  look = plain_look shape;
  label = [];
  title = codes "replica " ++ decimal lane;
}

abbrev pub is_retirement : Kind → Bool
is_retirement Retire = true
is_retirement other = false

-- whether the lane's replica retires
abbrev pub retires : ℕ → Happened → Bool
retires lane h = (h.lane == lane) && is_retirement h.kind

-- the row in which it does, or the one below all that is shown
abbrev pub end_of : List Happened → ℕ → ℕ
end_of shown lane = unwrap_or (position (retires lane) shown) (length shown)

-- a lane is thick as far as its replica admits events, and then thin
abbrev pub lines_of : List Happened → ℕ → List MarkView
lines_of shown lane = line_at lane Lane 0 (end_of shown lane) ∷ line_at lane Thin (end_of shown lane) (length shown) ∷ []
