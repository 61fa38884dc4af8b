-- what a mark has to be of a happening
use Rattle.std.specs.Prelude.{◌≡◌, ℕ, ◌+◌, List, [], ◌∷◌, ⊤}
use Rattle.mr_version.specs.Name.{Name}
use Rattle.mr_world.specs.Kept.{WorldView}
use Rattle.mr_draw.specs.Ends.{EndsAs}
use Rattle.mr_draw.specs.MarkView.{MarkView}
use Rattle.mr_draw.specs.Happened.{Happened}
use Rattle.mr_draw.specs.Look.{look_of}
use Rattle.mr_draw.specs.Words.{label_of, title_of}
use Rattle.mr_draw.specs.declared.happening.Kind.{Kind}
use Rattle.mr_draw.specs.declared.happening.Kind.TheVariants.{TakeItem, TakeMoveOut, TakeOther, Open}

-- an arrow comes from its source, and a sync's band goes to its target
abbrev pub other_lane_as : ℕ → Kind → ℕ
other_lane_as lane (TakeItem source stream v) = source
other_lane_as lane (TakeMoveOut source stream v) = source
other_lane_as lane (TakeOther source stream) = source
other_lane_as lane (Open target stream) = target
other_lane_as lane other = lane

abbrev pub other_lane_of : Happened → ℕ
other_lane_of h = other_lane_as h.lane h.kind

-- of a world in which all this happened, of which this is shown, and these versions were contested
module _ {K : Type 0} (w : WorldView K) (all shown : List Happened) (contested : List Name) where
  -- the mark of a happening in this row
  pub record IsMarkOf (row : ℕ) (h : Happened) (m : MarkView) : Type 0 where
    pub lane : m.lane ≡ h.lane
    pub row_is : m.row ≡ row
    pub other_lane : m.other_lane ≡ other_lane_of h
    pub ends : EndsAs shown row h.lane h.kind m.look.is_push_out m.last_row
    pub look : m.look ≡ look_of w contested h
    pub label : m.label ≡ label_of w all h
    pub title : m.title ≡ title_of w h

  -- each happening has a mark in a row of its own, the first in the row n
  abbrev pub AreMarksOf : ℕ → List Happened → List MarkView → Type 0
  AreMarksOf n [] [] = ⊤
  AreMarksOf n [] (m ∷ ms) = ⊥
  AreMarksOf n (h ∷ hs) [] = ⊥
  AreMarksOf n (h ∷ hs) (m ∷ ms) = IsMarkOf n h m × AreMarksOf (n + 1) hs ms
