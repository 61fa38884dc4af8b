-- the text of a picture
use Rattle.std.specs.Prelude.{ℕ, ◌+◌, ◌*◌, ◌-◌, ◌%◌, ◌==◌, nat_lt, if◌then◌else◌, List, [], ◌∷◌, ◌++◌, codes, length}
use Rattle.std.specs.List.{concat, flat_map}
use Rattle.std.specs.Fmt.{decimal}
use Rattle.mr_draw.specs.Escape.{escaped}
use Rattle.mr_draw.specs.Mark.{column_of, mark_text, x_at, x_of, y_of}
use Rattle.mr_draw.specs.HeadingView.{HeadingView}
use Rattle.mr_draw.specs.MarkView.{MarkView}
use Rattle.mr_draw.specs.SheetView.{SheetView}
use Rattle.mr_draw.specs.declared.mark.TheConstants.{FEW_LANES}
use Rattle.mr_draw.specs.declared.sheet.TheConstants.{FOOT, LEAST_WIDTH, LEGEND, RIGHT, STYLE}

-- how wide a picture of so many lanes is
abbrev pub width_of : ℕ → ℕ
width_of lanes =
    let width = x_at lanes (lanes - 1) + RIGHT in
    if nat_lt width LEAST_WIDTH then LEAST_WIDTH else width

abbrev pub size_text : (width height : ℕ) → List ℕ
size_text width height =
    concat (codes "<svg xmlns='http://www.w3.org/2000/svg' width='" ∷ decimal width ∷ codes "' height='" ∷ decimal height
    ∷ codes "' viewBox='0 0 " ∷ decimal width ∷ codes " " ∷ decimal height ∷ codes "'>\n" ∷ [])

abbrev pub opening_of : (lanes rows : ℕ) → List ℕ
opening_of lanes rows = size_text (width_of lanes) (y_of rows + FOOT) ++ STYLE.now

-- how far a name is from the upper edge: where there are many lanes, three that are side by side stand below one another
abbrev pub name_y : (lanes column : ℕ) → ℕ
name_y lanes column = if nat_lt FEW_LANES lanes then 18 + 16 * (column % 3) else 22

abbrev pub name_at : (x y : ℕ) → List ℕ
name_at x y = concat (codes "</title><text x='" ∷ decimal x ∷ codes "' y='" ∷ decimal y ∷ codes "'>" ∷ [])

abbrev pub filter_at : ℕ → List ℕ
filter_at x = concat (codes "</text><text class='filter' x='" ∷ decimal x ∷ codes "' y='40'>" ∷ [])

-- what pointing at it tells: the whole name, and the whole filter
abbrev pub title_text : (name filter : List ℕ) → List ℕ
title_text name filter = codes "<g class='name'><title>" ++ escaped name ++ codes ": " ++ escaped filter

-- a name and a filter as they are written so far from the edges, each escaped
abbrev pub named_text : (x y : ℕ) → (caption label : List ℕ) → List ℕ
named_text x y caption label = name_at x y ++ escaped caption ++ filter_at x ++ escaped label ++ codes "</text></g>\n"

-- what stands above a lane
abbrev pub heading_text : List ℕ → HeadingView → List ℕ
heading_text lanes h = title_text h.name h.filter_text ++ named_text (x_of lanes h.lane) (name_y (length lanes) (column_of lanes h.lane)) h.caption h.label

-- how many happenings have no mark, where some have none
abbrev pub left_out_text : (y left_out : ℕ) → List ℕ
left_out_text y left_out =
    if left_out == 0 then [] else concat (codes "<text class='note' x='12' y='" ∷ decimal y ∷ codes "'>" ∷ decimal left_out ∷ codes " later events are left out</text>\n" ∷ [])

abbrev pub fault_at : ℕ → List ℕ
fault_at y = concat (codes "<text class='fault' x='12' y='" ∷ decimal y ∷ codes "'>" ∷ [])

-- a fault, escaped, where there is one
abbrev pub fault_text : ℕ → List ℕ → List ℕ
fault_text y [] = []
fault_text y (b ∷ bs) = fault_at y ++ escaped (b ∷ bs) ++ codes "</text>\n"

abbrev pub legend_at : ℕ → List ℕ
legend_at y = concat (codes "<g class='note' transform='translate(12 " ∷ decimal y ∷ codes ")'>\n" ∷ [])

abbrev pub legend_text : ℕ → List ℕ
legend_text y = legend_at y ++ LEGEND.now ++ codes "</g>\n</svg>\n"

abbrev pub foot_text : (rows left_out : ℕ) → List ℕ → List ℕ
foot_text rows left_out fault =
    let y = y_of rows in
    left_out_text y left_out ++ fault_text (y + 18) fault ++ legend_text (y + 46)

-- The names of the lanes, then the lanes, then the marks, each in their order.
abbrev pub parts_text : List ℕ → List HeadingView → (lines marks : List MarkView) → ℕ → List ℕ → List ℕ
parts_text lanes headings lines marks left_out fault =
    opening_of (length lanes) (length marks) ++ flat_map (heading_text lanes) headings
    ++ flat_map (mark_text lanes) lines ++ flat_map (mark_text lanes) marks ++ foot_text (length marks) left_out fault

abbrev pub sheet_text : SheetView → List ℕ → List ℕ
sheet_text s fault = parts_text s.lanes s.headings s.lines s.marks s.left_out fault

-- that of no replica
abbrev pub blank_text : List ℕ → List ℕ
blank_text fault = parts_text [] [] [] [] 0 fault
