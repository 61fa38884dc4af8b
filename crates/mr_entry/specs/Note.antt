-- a note as contracts see it
use Rattle.std.specs.Prelude.{ℕ, List}

pub record NoteParts : Type 0 where
  pub kind : ℕ
  pub bytes : List ℕ
