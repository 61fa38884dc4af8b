-- what is done to what was open when a program ended
use Rattle.std.specs.Prelude.{◌≡◌, ◌≤◌, ◌++◌, [], List, Bool, false, cond, length, map, MatchBool}
use Rattle.mr_session.specs.Table.{open_numbers}
use Rattle.mr_replica.specs.State.{State}
use Rattle.mr_replica.specs.Growing.{IsOfSameSetting}
use Rattle.mr_replica.specs.declared.event.Event.{Event}
use Rattle.mr_replica.specs.declared.event.Event.TheVariants.{Create, Edit, Retire, Pull, Receive, CutIn, Answer, Next, CutOut, Vouch, Release}

-- the event closes a session or a stream
abbrev pub IsCut : Event → Type 0
IsCut (CutIn session) = Unit {0}
IsCut (CutOut stream) = Unit {0}
IsCut (Create message) = ⊥
IsCut (Edit bases message) = ⊥
IsCut Retire = ⊥
IsCut Pull = ⊥
IsCut (Receive frame) = ⊥
IsCut (Answer ask) = ⊥
IsCut (Next stream) = ⊥
IsCut (Vouch version) = ⊥
IsCut (Release receipt) = ⊥

module _ {K : Type 0} where
  -- the events that close what is open: a CutIn for each session, but of a retired replica none, and then a CutOut for each stream
  abbrev pub closers : State K → List Event
  closers s = cond s.is_retired [] (map CutIn (open_numbers s.sessions)) ++ map CutOut (open_numbers s.streams)

  -- no stream is open, and no session that can be closed: those of a retired replica can't
  pub record AreClosed (s : State K) : Type 0 where
    pub sessions : s.is_retired ≡ false → open_numbers s.sessions ≡ []
    pub streams : open_numbers s.streams ≡ []

  -- the log has as many events as are admitted
  abbrev pub IsFull : State K → Type 0
  IsFull s = s.event_limit ≤ length s.log

  -- the replica took some of these events, from the first on: all of them, or as many as its log takes
  pub record Takes (events : List Event) (are_all : Bool) (old new : State K) : Type 0 where
    pub more : List Event
    pub left : List Event
    pub first : more ++ left ≡ events
    pub log_is : new.log ≡ old.log ++ more
    pub setting : IsOfSameSetting old new
    pub rest : MatchBool are_all (left ≡ []) (IsFull new)
