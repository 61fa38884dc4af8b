-- A history that explains how replicas ended.
use Rattle.std.specs.Prelude.{◌≡◌, ◌≢◌, Some, List, map, All, AllPairs}
use Rattle.mr_forms.specs.Known.{Form}
use Rattle.mr_replica.specs.State.{State}
use Rattle.mr_world.specs.Kept.{WorldView, replica_at}
use Rattle.mr_world.specs.Run.{ids_of}
use Rattle.mr_settle.specs.History.{log_in, OnlyAdmits, IsWorldOf}

module _ {K : Type 0} where
  -- no two of them have one id
  abbrev pub AreDistinct : List (State K) → Type 0
  AreDistinct ends = AllPairs (λ s t. s.id ≢ t.id) ends

module _ {K : Type 0} (form : Form K) where
  -- The world's replicas are these ends, in their order: each has admitted in its history just the events of the end's log,
  -- with frames that the world's replicas gave, and is now equal to it. Nothing else happened in the world.
  pub record Explains (ends : List (State K)) (w : WorldView K) : Type 0 where
    pub is_of : IsWorldOf form ends w
    pub ids : ids_of w.members ≡ map (λ end. end.id) ends
    pub logs : All (λ end. log_in w end.id ≡ end.log) ends
    pub same : All (λ end. replica_at w.members end.id ≡ Some end) ends
    pub only : OnlyAdmits w
