-- replicas that are put back, one after the other
use Rattle.std.specs.Prelude.{◌≡◌, ◌≤◌, ℕ, List, length, sum_by}
use Rattle.mr_forms.specs.Known.{Form}
use Rattle.mr_replica.specs.State.{State}
use Rattle.mr_audit.specs.Beginning.{IsBeginning}

module _ {K : Type 0} where
  -- how many events the logs have
  abbrev pub event_count : List (State K) → ℕ
  event_count ends = sum_by (λ end. length end.log) ends

module _ {K : Type 0} (form : Form K) where
  -- a beginning of the end, which has at most so many events if it has this id
  pub record IsPutBack (replica events : ℕ) (end start : State K) : Type 0 where
    pub beginning : IsBeginning form end start
    pub few : end.id ≡ replica → length start.log ≤ events
