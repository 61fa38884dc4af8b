-- the text of a mark in an SVG
use Rattle.std.specs.Prelude.{ℕ, ◌+◌, ◌*◌, ◌/◌, ◌==◌, Bool, nat_lt, if◌then◌else◌, unwrap_or, position, length, List, [], ◌∷◌, ◌++◌, codes}
use Rattle.std.specs.List.{concat}
use Rattle.std.specs.Fmt.{decimal}
use Rattle.mr_draw.specs.Escape.{escaped}
use Rattle.mr_draw.specs.MarkView.{MarkView}
use Rattle.mr_draw.specs.declared.mark.Look.{Look}
use Rattle.mr_draw.specs.declared.mark.Shape.{Shape}
use Rattle.mr_draw.specs.declared.mark.Shape.TheVariants.{Lane, Thin, Band, Version, Merge, Item, MoveOut, Record, Cut, Retire, Vouch, Release}
use Rattle.mr_draw.specs.declared.mark.TheConstants.{LEFT, FEW_LANES, MANY_LANES, GAP, LESS_GAP, LEAST_GAP, TOP, ROW}

-- the names by which a picture's style knows what looks so
abbrev pub class_of : Shape → List ℕ
class_of Lane = codes "lane"
class_of Thin = codes "thin"
class_of Band = codes "band"
class_of Version = codes "version"
class_of Merge = codes "version merge"
class_of Item = codes "item"
class_of MoveOut = codes "moveout"
class_of Record = codes "record"
class_of Cut = codes "cut"
class_of Retire = codes "retire"
class_of Vouch = codes "vouch"
class_of Release = codes "release"

abbrev pub contested_class : Bool → List ℕ
contested_class is_contested = if is_contested then codes " contested" else []

abbrev pub push_out_class : Bool → List ℕ
push_out_class is_push_out = if is_push_out then codes " pushout" else []

-- the head of an arrow, at which it ends
abbrev pub head_of : Bool → List ℕ
head_of is_from_right = if is_from_right then codes "m9 -3l-7 3l7 3" else codes "m-9 -3l7 3l-7 3"

-- what is drawn at the first place
abbrev pub pen_of : Shape → Bool → List ℕ
pen_of Lane is_from_right = []
pen_of Thin is_from_right = []
pen_of Band is_from_right = []
pen_of Version is_from_right = codes "m-6 0a6 6 0 1 0 12 0a6 6 0 1 0 -12 0zm6 0"
pen_of Merge is_from_right = codes "m0 -8l8 8l-8 8l-8 -8zm0 8"
pen_of Item is_from_right = head_of is_from_right
pen_of MoveOut is_from_right = head_of is_from_right
pen_of Record is_from_right = head_of is_from_right
pen_of Cut is_from_right = codes "m-9 3l6 -8l6 10l6 -8"
pen_of Retire is_from_right = codes "m-10 0h20"
pen_of Vouch is_from_right = codes "m-5 -5h10v10h-10z"
pen_of Release is_from_right = codes "m-5 -5l10 10m0 -10l-10 10"

-- the ring round what was contested
abbrev pub ring_of : Bool → List ℕ
ring_of is_contested = if is_contested then codes "m-10 0a10 10 0 1 0 20 0a10 10 0 1 0 -20 0z" else []

abbrev pub drawn_text : Look → Bool → List ℕ
drawn_text look is_from_right = pen_of look.shape is_from_right ++ ring_of look.is_contested

-- how far a label is to the right of its mark's middle
abbrev pub label_right_of : Shape → ℕ
label_right_of Band = 0
label_right_of Item = 0
label_right_of MoveOut = 0
label_right_of Record = 0
label_right_of other = 14

-- how far it is below the mark's line
abbrev pub label_down_of : Shape → ℕ
label_down_of Item = 0
label_down_of MoveOut = 0
label_down_of Band = 12
label_down_of other = 4

-- a lane's column is its place among the lanes
abbrev pub column_of : List ℕ → ℕ → ℕ
column_of lanes lane = unwrap_or (position (λ other. other == lane) lanes) 0

-- how far a lane is from the one before it: the less, the more there are
abbrev pub gap_of : ℕ → ℕ
gap_of lanes = if nat_lt FEW_LANES lanes then (if nat_lt MANY_LANES lanes then LEAST_GAP else LESS_GAP) else GAP

abbrev pub x_at : (lanes column : ℕ) → ℕ
x_at lanes column = LEFT + gap_of lanes * column

abbrev pub x_of : List ℕ → ℕ → ℕ
x_of lanes lane = x_at (length lanes) (column_of lanes lane)

abbrev pub y_of : ℕ → ℕ
y_of row = TOP + ROW * row

-- ---- the parts of a mark's text

abbrev pub opening_text : Look → List ℕ
opening_text look =
    concat (codes "<g class='" ∷ class_of look.shape ∷ contested_class look.is_contested ∷ push_out_class look.is_push_out ∷ codes "'><title>" ∷ [])

-- a line or a rectangle between two places
abbrev pub line_text : (x y other_x last_y : ℕ) → List ℕ
line_text x y other_x last_y =
    concat (codes "</title><path d='M" ∷ decimal x ∷ codes " " ∷ decimal y ∷ codes "H" ∷ decimal other_x ∷ codes "V" ∷ decimal last_y ∷ codes "H" ∷ decimal x ∷ codes "z" ∷ [])

abbrev pub label_at : (x y : ℕ) → List ℕ
label_at x y = concat (codes "'/><text x='" ∷ decimal x ∷ codes "' y='" ∷ decimal y ∷ codes "'>" ∷ [])

-- what looks so between two places, and where its label stands
abbrev pub shape_text : (x y other_x last_y : ℕ) → Look → List ℕ
shape_text x y other_x last_y look =
    line_text x y other_x last_y ++ drawn_text look (nat_lt x other_x) ++ label_at ((x + other_x) / 2 + label_right_of look.shape) (y + label_down_of look.shape)

abbrev pub path_text : List ℕ → MarkView → List ℕ
path_text lanes m = shape_text (x_of lanes m.lane) (y_of m.row) (x_of lanes m.other_lane) (y_of m.last_row) m.look

-- The mark on its lane and in its row, with its title and its label, each escaped.
abbrev pub mark_text : List ℕ → MarkView → List ℕ
mark_text lanes m =
    opening_text m.look ++ escaped m.title ++ path_text lanes m ++ escaped m.label ++ codes "</text></g>\n"
