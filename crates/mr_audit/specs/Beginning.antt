-- A replica as it was some events ago.
use Rattle.std.specs.Prelude.{◌≡◌, ◌++◌, List}
use Rattle.mr_forms.specs.Known.{Form}
use Rattle.mr_replica.specs.State.{State}
use Rattle.mr_replica.specs.Replay.{IsItsLog}
use Rattle.mr_replica.specs.declared.event.Event.{Event}

module _ {K : Type 0} (form : Form K) where
  -- It has the end's id, filter and limit, and is a beginning of the end's log, replayed.
  pub record IsBeginning (end start : State K) : Type 0 where
    pub id : start.id ≡ end.id
    pub filter : start.filter ≡ end.filter
    pub event_limit : start.event_limit ≡ end.event_limit
    pub later : List Event
    pub log : end.log ≡ start.log ++ later
    pub is_its_log : IsItsLog form start
