-- a picture as contracts see it
use Rattle.std.specs.Prelude.{ℕ, List}
use Rattle.mr_draw.specs.HeadingView.{HeadingView}
use Rattle.mr_draw.specs.MarkView.{MarkView}

-- Its lanes with their names, the lines of the lanes, its marks, and how many happenings have none.
pub record SheetView : Type 0 where
  pub lanes : List ℕ
  pub headings : List HeadingView
  pub lines : List MarkView
  pub marks : List MarkView
  pub left_out : ℕ
