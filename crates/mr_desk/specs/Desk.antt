-- a desk as contracts see it
use Rattle.std.specs.Prelude.{ℕ, List}
use Rattle.mr_itemset.specs.Normal.{Normal}
use Rattle.mr_replica.specs.State.{State}

-- the replica, and the bytes of the frame that it gave last
pub record DeskState : Type 0 where
  pub replica : State Normal
  pub frame : List ℕ
