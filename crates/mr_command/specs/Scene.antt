-- what is there as a line is read
use Rattle.std.specs.Prelude.{ℕ, Bool}
use Rattle.mr_command.specs.declared.pool.Pool.{Pool}

pub record Scene : Type 0 where
  -- no other line than those of replicas came so far
  pub is_opening : Bool
  -- the ids that replicas have
  pub has_replica : ℕ → Bool
  -- the numbers that a pool's frames have
  pub has_frame : Pool → ℕ → Bool
