-- Replicas that are alike: the same in all, but for how what they know is kept.
use Rattle.std.specs.Prelude.{◌≡◌}
use Rattle.mr_forms.specs.Known.{Pairs, Form}
use Rattle.mr_replica.specs.State.{State}

module _ {K : Type 0} (form : Form K) where
  -- the replica, with what it knows in the place of the value that knows it
  abbrev pub seen : State K → State Pairs
  seen s = record {
    id = s.id;
    filter = s.filter;
    event_limit = s.event_limit;
    issued = s.issued;
    knowledge = form.known s.knowledge;
    heads = s.heads;
    push_outs = s.push_outs;
    trail = s.trail;
    feed = s.feed;
    push_out_feed = s.push_out_feed;
    log = s.log;
    is_retired = s.is_retired;
    sessions = s.sessions;
    streams = s.streams;
  }

  -- one replica, but that the value of its knowledge may be another one that knows the same
  abbrev pub AreAlike : State K → State K → Type 0
  AreAlike s t = seen s ≡ seen t
