-- What an event adds to a replica's feeds and to its log, and what it leaves.
use Rattle.std.specs.Prelude.{◌≡◌, ◌++◌, Result, Ok, Err, List, [], ◌∷◌}
use Rattle.mr_feed.specs.declared.entry.Entry.{Entry}
use Rattle.mr_replica.specs.State.{State}
use Rattle.mr_replica.specs.declared.event.Event.{Event}
use Rattle.mr_replica.specs.declared.event.Reply.{Reply}
use Rattle.mr_replica.specs.declared.refusal.Refusal.{Refusal}

module _ {K : Type 0} where
  -- the feed is as it was, with some entries behind, or none
  abbrev pub FeedGrows : State K → State K → Type 0
  FeedGrows s new = (more : List Entry) × (new.feed ≡ s.feed ++ more)

  -- and so is that of the push-outs
  abbrev pub PushOutFeedGrows : State K → State K → Type 0
  PushOutFeedGrows s new = (more : List Entry) × (new.push_out_feed ≡ s.push_out_feed ++ more)

  -- the replica is of the id, the filter and the limit that it was of
  pub record IsOfSameSetting (s new : State K) : Type 0 where
    pub id : new.id ≡ s.id
    pub filter : new.filter ≡ s.filter
    pub event_limit : new.event_limit ≡ s.event_limit

-- the event where it was admitted, and nothing where it was refused
abbrev pub admitted : Event → Result Reply Refusal → List Event
admitted event (Ok reply) = event ∷ []
admitted event (Err refusal) = []
