-- what one event of a world shows, as contracts see it
use Rattle.std.specs.Prelude.{ℕ}
use Rattle.mr_draw.specs.declared.happening.Kind.{Kind}

-- whose lane it is on, what it shows, and its place among the answers, from 0
pub record Happened : Type 0 where
  pub lane : ℕ
  pub kind : Kind
  pub place : ℕ
