-- what a replica holds and tells, and one revision more
use Rattle.std.specs.Prelude.{◌≡◌, ◌≤◌, ◌<◌, ℕ, Bool, true, false, not, Option, Some, None, List, ◌++◌, map, filter}
use Rattle.mr_feed.specs.declared.entry.Entry.{Entry}
use Rattle.mr_feed.specs.Feed.{FeedView}
use Rattle.mr_madewith.specs.Revision.{Rev, has_below}
use Rattle.mr_madewith.specs.Trail.{Track}
use Rattle.mr_store.specs.declared.store.Part.{Part}
use Rattle.mr_store.specs.declared.store.Part.TheVariants.{Heads, PushOuts}
use Rattle.mr_store.specs.Holdings.{Holdings, room_in}
use Rattle.mr_store.specs.Revisions.{supersedes}
use Rattle.mr_store.specs.Room.{room_of}
use Rattle.mr_replica.specs.Issue.{dropped, added, if_so}
use Rattle.mr_replica.specs.declared.event.Event.{Event}

-- the store, the trail, the feeds and the log, each with the room that it has
pub record ContentParts : Type 0 where
  pub store : Holdings
  pub trail : Track
  pub feed : FeedView
  pub push_out_feed : FeedView
  pub log : List Event
  pub log_room : ℕ

-- the part of the store that a revision enters, by whether the filter selects it
abbrev pub part_for : Bool → Part
part_for true = Heads
part_for false = PushOuts

-- the entries of a revision that enters: the heads that it supersedes leave, in version order, and it enters the heads if it is selected
abbrev pub news_of : Bool → Rev → List Rev → List Entry
news_of selected r heads = map dropped (filter (supersedes r.item (has_below r)) heads) ++ map added (if_so selected r)

-- the entries of the push-outs as it enters: those that it supersedes leave, in version order, and it enters them if it isn't selected
abbrev pub push_out_news_of : Bool → Rev → List Rev → List Entry
push_out_news_of selected r push_outs = map dropped (filter (supersedes r.item (has_below r)) push_outs) ++ map added (if_so (not selected) r)

-- there is room for the revision, for so many entries of either feed, and for an event
pub record HasRoom (selected : Bool) (r : Rev) (entries push_out_entries : ℕ) (c : ContentParts) : Type 0 where
  pub in_store : room_in (part_for selected) c.store ≡ Some (room_of r)
  pub in_trail : 0 < c.trail.room
  pub in_feed : entries ≤ c.feed.room
  pub in_push_out_feed : push_out_entries ≤ c.push_out_feed.room
  pub in_log : 0 < c.log_room

-- there is room for the revision in the heads, where there is one
abbrev pub HasPlace : Option Rev → Holdings → Type 0
HasPlace None store = Unit {0}
HasPlace (Some r) store = room_in Heads store ≡ Some (room_of r)

-- nothing but room has changed
pub record HoldsSame (old new : ContentParts) : Type 0 where
  pub heads : new.store.heads ≡ old.store.heads
  pub push_outs : new.store.push_outs ≡ old.store.push_outs
  pub trail : new.trail.lasts ≡ old.trail.lasts
  pub feed : new.feed.entries ≡ old.feed.entries
  pub push_out_feed : new.push_out_feed.entries ≡ old.push_out_feed.entries
  pub log : new.log ≡ old.log
