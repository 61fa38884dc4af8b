-- a mark as contracts see it
use Rattle.std.specs.Prelude.{ℕ, List}
use Rattle.mr_draw.specs.declared.mark.Look.{Look}

-- It is on a lane and in a row, goes from or to another lane and to a last row, and looks so. What it says are bytes of text.
pub record MarkView : Type 0 where
  pub lane : ℕ
  pub row : ℕ
  pub other_lane : ℕ
  pub last_row : ℕ
  pub look : Look
  pub label : List ℕ
  pub title : List ℕ
