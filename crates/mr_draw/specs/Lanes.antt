-- the lanes of a world
use Rattle.std.specs.Prelude.{ℕ, zero, suc, List, [], ◌∷◌, ◌++◌, Option}
use Rattle.std.specs.List.{filter_map}
use Rattle.std.specs.Option.{option_map}
use Rattle.mr_version.specs.declared.author.TheConstants.{AUTHORS}
use Rattle.mr_world.specs.Kept.{WorldView, replica_at}

-- the numbers below n, in rising order
abbrev pub below : ℕ → List ℕ
below zero = []
below (suc n) = below n ++ n ∷ []

module _ {K : Type 0} where
  -- the ids of the world's replicas, in rising order
  abbrev pub lane_at : WorldView K → ℕ → Option ℕ
  lane_at w id = option_map (λ replica. id) (replica_at w.members id)

  abbrev pub lanes_in : WorldView K → List ℕ
  lanes_in w = filter_map (lane_at w) (below AUTHORS)
