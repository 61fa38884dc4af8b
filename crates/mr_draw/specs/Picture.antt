-- the picture of a world
use Rattle.std.specs.Prelude.{◌≡◌, ◌+◌, ◌-◌, ℕ, nat_lt, if◌then◌else◌, List, [], ◌∷◌, ◌++◌, Option, Some, None, All, IfSome, chars, codes, encode_utf8_all, length, map, slice_get, take}
use Rattle.std.specs.Fmt.{decimal}
use Rattle.std.specs.List.{concat, flat_map}
use Rattle.mr_filter.specs.Text.{IsFilterText}
use Rattle.mr_world.specs.Kept.{WorldView, replica_at}
use Rattle.mr_draw.specs.Contested.{contested_in}
use Rattle.mr_draw.specs.Happened.{Happened}
use Rattle.mr_draw.specs.Happening.{happenings_of}
use Rattle.mr_draw.specs.HeadingView.{HeadingView}
use Rattle.mr_draw.specs.Lanes.{lanes_in}
use Rattle.mr_draw.specs.Lines.{lines_of}
use Rattle.mr_draw.specs.Sheet.{sheet_text}
use Rattle.mr_draw.specs.SheetView.{SheetView}
use Rattle.mr_draw.specs.Sign.{AreMarksOf}
use Rattle.mr_draw.specs.declared.mark.TheConstants.{FEW_LANES}
use Rattle.mr_draw.specs.declared.marks.TheConstants.{MAX_ROWS}
use Rattle.mr_draw.specs.declared.picture.TheConstants.{MOST_WRITTEN}

-- ---- what stands above the lanes

-- a lane with what it is called
pub record Named : Type 0 where
  pub lane : ℕ
  pub name : List ℕ

abbrev pub named_by : HeadingView → Named
named_by h = record { lane = h.lane; name = h.name }

-- what a lane is called that was given this name, or none
abbrev pub name_of : Option (List ℕ) → ℕ → List ℕ
name_of None lane = codes "replica " ++ decimal lane
name_of (Some name) lane = concat (name ∷ codes " (" ∷ decimal lane ∷ codes ")" ∷ [])

abbrev pub named_at : List (List ℕ) → (column lane : ℕ) → Named
named_at names column lane = record { lane = lane; name = name_of (slice_get names column) lane }

-- each lane with the next of the names, the first being in the column n
abbrev pub named_from : List (List ℕ) → ℕ → List ℕ → List Named
named_from names n [] = []
named_from names n (lane ∷ lanes) = named_at names n lane ∷ named_from names (n + 1) lanes

-- the first 18 characters of a text
abbrev pub beginning_of : List ℕ → List ℕ
beginning_of text = encode_utf8_all (take MOST_WRITTEN (chars text))

-- these, and two dots where it goes on
abbrev pub shortened : List ℕ → List ℕ
shortened text = beginning_of text ++ (if nat_lt (length (beginning_of text)) (length text) then codes ".." else [])

-- the filter is written where there are few lanes
abbrev pub label_among : (lanes : ℕ) → List ℕ → List ℕ
label_among lanes filter_text = if nat_lt FEW_LANES lanes then [] else shortened filter_text

-- Above one of so many lanes its name and its filter are written, each as far as there is room.
pub record IsWritten (lanes : ℕ) (h : HeadingView) : Type 0 where
  pub caption : h.caption ≡ shortened h.name
  pub label : h.label ≡ label_among lanes h.filter_text

module _ {K : Type 0} where
  -- the text of the filter of the replica of this id
  abbrev pub IsFilterOf : WorldView K → ℕ → List ℕ → Type 0
  IsFilterOf w id text = IfSome (replica_at w.members id) (λ replica. IsFilterText replica.filter text)

  -- pointing at what stands above a lane tells the whole filter of its replica
  abbrev pub HasFilter : WorldView K → HeadingView → Type 0
  HasFilter w h = IsFilterOf w h.lane h.filter_text

  -- the happenings that have a row
  abbrev pub shown_in : WorldView K → List Happened
  shown_in w = take MAX_ROWS (happenings_of w.answers)

  -- The text is of a sheet with a lane for each replica, which has its lines, and a mark for each of the first happenings, in
  -- their order. Above each lane its name and its filter are written, and told whole on pointing. It says how many
  -- happenings are left out, and the fault stands under it.
  pub record Draws (w : WorldView K) (names : List (List ℕ)) (fault svg : List ℕ) : Type 0 where
    pub sheet : SheetView
    pub lanes : sheet.lanes ≡ lanes_in w
    pub named : map named_by sheet.headings ≡ named_from names 0 (lanes_in w)
    pub filters : All (HasFilter w) sheet.headings
    pub written : All (IsWritten (length (lanes_in w))) sheet.headings
    pub lines : sheet.lines ≡ flat_map (lines_of (shown_in w)) (lanes_in w)
    pub shown : AreMarksOf w (happenings_of w.answers) (shown_in w) (contested_in w) 0 (shown_in w) sheet.marks
    pub left_out : sheet.left_out ≡ length (happenings_of w.answers) - MAX_ROWS
    pub text : svg ≡ sheet_text sheet fault
