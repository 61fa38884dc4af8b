-- replicas of one id
use Rattle.std.specs.Prelude.{◌==◌, ◌||◌, Bool, false, List, [], ◌∷◌}
use Rattle.std.specs.List.{list_any}
use Rattle.mr_replica.specs.State.{State}

module _ {K : Type 0} where
  -- two of them have one id, by a test
  abbrev pub share_id : List (State K) → Bool
  share_id [] = false
  share_id (end ∷ ends) = list_any (λ other. other.id == end.id) ends || share_id ends
