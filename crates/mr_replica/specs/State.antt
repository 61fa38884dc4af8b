-- a replica as contracts see it
use Rattle.std.specs.Prelude.{◌+◌, ◌++◌, ℕ, Bool, false, Option, List, []}
use Rattle.std.specs.Option.{option_map_or}
use Rattle.mr_version.specs.Name.{Name}
use Rattle.mr_filter.specs.Filter.{ClauseParts}
use Rattle.mr_feed.specs.declared.entry.Entry.{Entry}
use Rattle.mr_madewith.specs.Revision.{Rev}
use Rattle.mr_store.specs.Revisions.{revision_of}
use Rattle.mr_session.specs.Table.{Table, empty_table}
use Rattle.mr_session.specs.Session.{Session}
use Rattle.mr_session.specs.Stream.{Stream}
use Rattle.mr_replica.specs.declared.event.Event.{Event}

pub record State (K : Type 0) : Type 0 where
  pub id : ℕ
  pub filter : List ClauseParts
  pub event_limit : ℕ
  -- how many versions were issued
  pub issued : ℕ
  pub knowledge : K
  -- the held revisions that the filter selects, and the others, each in version order
  pub heads : List Rev
  pub push_outs : List Rev
  -- the last own version of each item, in the order of the items
  pub trail : List Rev
  -- the changes of the heads, those of the push-outs and the admitted events, each in order of time
  pub feed : List Entry
  pub push_out_feed : List Entry
  pub log : List Event
  pub is_retired : Bool
  -- what it has taken of the streams that it asked for, and what it tells others
  pub sessions : Table Session
  pub streams : Table Stream

module _ {K : Type 0} where
  -- a replica to which nothing has happened
  abbrev pub new_state : (id : ℕ) → List ClauseParts → (event_limit : ℕ) → K → State K
  new_state id filter event_limit knowledge = record {
    id = id;
    filter = filter;
    event_limit = event_limit;
    issued = 0;
    knowledge = knowledge;
    heads = [];
    push_outs = [];
    trail = [];
    feed = [];
    push_out_feed = [];
    log = [];
    is_retired = false;
    sessions = empty_table;
    streams = empty_table;
  }

  -- the version that the replica issues next
  abbrev pub next_version : State K → Name
  next_version s = record { author = s.id; counter = s.issued + 1 }

  -- the held revision of a version
  abbrev pub held : State K → Name → Option Rev
  held s v = revision_of (s.heads ++ s.push_outs) v

  -- the item of a held version
  abbrev pub item_of_held : State K → Name → Name
  item_of_held s v = option_map_or (λ r. r.item) (held s v) v
