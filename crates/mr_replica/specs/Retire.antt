-- Retire: the replica admits nothing more of its own.
use Rattle.std.specs.Prelude.{true, false, Bool, Option, List, [], ◌∷◌}
use Rattle.mr_replica.specs.State.{State}
use Rattle.mr_replica.specs.Refusal.{◌orelse◌, refused_if}
use Rattle.mr_replica.specs.Admission.{retired}
use Rattle.mr_replica.specs.declared.refusal.Refusal.{Refusal}
use Rattle.mr_replica.specs.declared.refusal.Refusal.TheVariants.{PushOutsLeft}

-- whether there is any
abbrev pub has_any : {X : Type 0} → List X → Bool
has_any [] = false
has_any (x ∷ xs) = true

module _ {K : Type 0} where
  -- why it is refused: what it has not released would be lost. A full log is no reason.
  abbrev pub retire_refusal : State K → Option Refusal
  retire_refusal s = retired s orelse refused_if (has_any s.push_outs) PushOutsLeft

  -- the replica as it retires
  abbrev pub retiring : State K → State K
  retiring s = record s { is_retired = true }
