-- a lane's name as contracts see it
use Rattle.std.specs.Prelude.{ℕ, List}

-- Whose lane it is; what is written above it: its name and its filter, each of which may be cut, and the filter left out; and the
-- whole of both.
pub record HeadingView : Type 0 where
  pub lane : ℕ
  pub caption : List ℕ
  pub label : List ℕ
  pub name : List ℕ
  pub filter_text : List ℕ
