-- What events change of a replica, and the changes. The log is told after them.
use Rattle.std.specs.Prelude.{◌≡◌, ◌<◌, ◌+◌, ◌^◌, ◌++◌, true, not, List, Some, None, IsSome, IfSome, length, filter}
use Rattle.mr_version.specs.Name.{Name}
use Rattle.mr_forms.specs.Known.{Form, AreSame, learned, learned_with}
use Rattle.mr_concise.specs.Vector.{vector_has}
use Rattle.mr_feed.specs.declared.entry.Entry.{Entry}
use Rattle.mr_madewith.specs.Revision.{has_below}
use Rattle.mr_madewith.specs.Trail.{noted}
use Rattle.mr_store.specs.Revisions.{AreInVersionOrder, revision_of, holds, left_by}
use Rattle.mr_wire.specs.Frames.{Sent}
use Rattle.mr_wire.specs.declared.frame.Frame.TheVariants.{Record}
use Rattle.mr_wire.specs.declared.frame.Receipt.{Receipt}
use Rattle.mr_session.specs.Session.{Session, new_session, first_fault, with_taken}
use Rattle.mr_session.specs.Stream.{new_stream}
use Rattle.mr_session.specs.Table.{Table, open_at, with_opened, with_closed}
use Rattle.mr_session.specs.Onward.{advanced}
use Rattle.mr_session.specs.declared.limits.TheConstants.{MAX_OPEN}
use Rattle.mr_replica.specs.State.{State}
use Rattle.mr_replica.specs.Issue.{entered_if}
use Rattle.mr_replica.specs.Receive.{arrived}
use Rattle.mr_replica.specs.Release.{vouched}
use Rattle.mr_replica.specs.inner.Taking.{told_line, told_by, below_told}
use Rattle.mr_replica.specs.declared.event.Event.{Event}
use Rattle.mr_replica.specs.declared.event.Event.TheVariants.{Receive, Release}
use Rattle.mr_replica.specs.declared.replica.contents.arrival.Arrival.{Arrival}
use Rattle.mr_replica.specs.declared.replica.take.Told.{Told}
use Rattle.mr_replica.specs.declared.replica.end.Ended.{Ended}
use Rattle.mr_replica.specs.declared.replica.parts.Parts.{Parts}
use Rattle.mr_replica.specs.declared.replica.parts.Change.{Change}
use Rattle.mr_replica.specs.declared.replica.parts.Change.TheVariants as change

-- ---- what an event carries

-- the event is a Receive of a record of which this holds
abbrev pub OfRecord : Event → (Sent → Type 0) → Type 0
OfRecord (Receive (Record sent)) P = P sent
OfRecord event P = ⊥

abbrev pub IsOfRecord : Event → Type 0
IsOfRecord event = OfRecord event (λ _. Unit {0})

-- the event is a Release by a receipt of which this holds
abbrev pub OfReceipt : Event → (Receipt → Type 0) → Type 0
OfReceipt (Release receipt) P = P receipt
OfReceipt event P = ⊥

abbrev pub IsOfReceipt : Event → Type 0
IsOfReceipt event = OfReceipt event (λ _. Unit {0})

-- the session of the record, which is open, takes it
pub record IsDueIn (sessions : Table Session) (sent : Sent) : Type 0 where
  pub is_open : IsSome (open_at sessions sent.header.session)
  pub admitted : IfSome (open_at sessions sent.header.session) (λ session. first_fault session.origin session.next sent ≡ None)
  pub goes_on : sent.header.index + 1 < 2 ^ 32

module _ {K : Type 0} where
  -- the session of the record takes it, and what it tells of this version may be learned
  pub record IsToldIn (s : State K) (item version : Name) (told : Told) (sent : Sent) : Type 0 where
    pub due : IsDueIn s.sessions sent
    pub line : told_line sent.body ≡ Some (told_by item version sent.body)
    pub new : IfSome told.comer (λ r. revision_of (s.heads ++ s.push_outs) r.version ≡ None)

  -- the change may be put in, by the event
  abbrev pub MayPut : State K → Change K → Event → Type 0
  MayPut s change.Note event = Unit {0}
  MayPut s (change.Enter arrival) event = (s.issued + 1 < 2 ^ 32) × (revision_of (s.heads ++ s.push_outs) arrival.revision.version ≡ None)
  MayPut s change.Take event = OfRecord event (IsDueIn s.sessions)
  MayPut s (change.Learn item version told) event = OfRecord event (IsToldIn s item version told)
  MayPut s (change.End ended) event = IsSome (open_at s.sessions ended.session) × AreInVersionOrder ended.left.items
  MayPut s change.OpenSession event = (length s.sessions.open_ones < MAX_OPEN) × (s.sessions.opened + 1 < 2 ^ 64)
  MayPut s (change.CloseSession session) event = IsSome (open_at s.sessions session)
  MayPut s (change.OpenStream opening) event = (length s.streams.open_ones < MAX_OPEN) × (s.streams.opened + 1 < 2 ^ 64)
  MayPut s (change.GoOn stream onward) event = IsSome (open_at s.streams stream) × IfSome (open_at s.streams stream) (λ stream. stream.next + 1 < 2 ^ 32)
  MayPut s (change.CloseStream stream) event = IsSome (open_at s.streams stream)
  MayPut s (change.Release entries) event = IsOfReceipt event
  MayPut s change.Retire event = Unit {0}

  -- ---- the changes

  -- the arrival has entered, and this is known
  abbrev pub entered_in : State K → Arrival → K → State K
  entered_in s arrival knowledge = record s {
    issued = s.issued + 1;
    knowledge = knowledge;
    heads = entered_if arrival.selected arrival.revision (left_by arrival.revision.item (has_below arrival.revision) s.heads);
    push_outs = entered_if (not arrival.selected) arrival.revision (left_by arrival.revision.item (has_below arrival.revision) s.push_outs);
    trail = noted arrival.last s.trail;
    feed = s.feed ++ arrival.entries.items;
    push_out_feed = s.push_out_feed ++ arrival.push_out_entries.items;
  }

  -- a session has taken the record, and this is known by what it tells
  abbrev pub told_in : State K → (item : Name) → Told → Sent → K → State K
  told_in s item told sent knowledge = record s {
    knowledge = knowledge;
    heads = arrived told.comer (left_by item (vector_has (below_told sent.body)) s.heads);
    push_outs = left_by item (vector_has (below_told sent.body)) s.push_outs;
    feed = s.feed ++ told.entries.items;
    push_out_feed = s.push_out_feed ++ told.push_out_entries.items;
    sessions = with_taken sent s.sessions;
  }

  -- a session is closed with the End of its full stream
  abbrev pub ended_in : State K → Ended K → State K
  ended_in s ended = record s {
    knowledge = ended.knowledge;
    heads = filter (λ r. not (holds ended.left.items r.version)) s.heads;
    feed = s.feed ++ ended.entries.items;
    sessions = with_closed s.sessions ended.session;
  }

  -- the push-outs leave that the receipt is for, and these entries tell it
  abbrev pub released_in : State K → List Entry → Receipt → State K
  released_in s entries receipt = record s {
    push_outs = left_by receipt.descent.item (vouched receipt.descent) s.push_outs;
    push_out_feed = s.push_out_feed ++ entries;
  }

  -- the change is made
  abbrev pub Puts : Form K → State K → Change K → Event → State K → Type 0
  Puts form s change.Note event t = t ≡ s
  Puts form s (change.Enter arrival) event t = AreSame (form.known t.knowledge) (learned form s.knowledge arrival.revision.item arrival.revision.version) × (t ≡ entered_in s arrival t.knowledge)
  Puts form s change.Take event t = OfRecord event (λ sent. t ≡ record s { sessions = with_taken sent s.sessions })
  Puts form s (change.Learn item version told) event t =
      OfRecord event (λ sent. AreSame (form.known t.knowledge) (learned_with form s.knowledge item version (vector_has (below_told sent.body))) × (t ≡ told_in s item told sent t.knowledge))
  Puts form s (change.End ended) event t = t ≡ ended_in s ended
  Puts form s change.OpenSession event t = t ≡ record s { sessions = with_opened s.sessions new_session }
  Puts form s (change.CloseSession session) event t = t ≡ record s { sessions = with_closed s.sessions session }
  Puts form s (change.OpenStream opening) event t = t ≡ record s { streams = with_opened s.streams (new_stream opening.asked opening.mode opening.know.items) }
  Puts form s (change.GoOn stream onward) event t = t ≡ record s { streams = advanced stream onward s.streams }
  Puts form s (change.CloseStream stream) event t = t ≡ record s { streams = with_closed s.streams stream }
  Puts form s (change.Release entries) event t = OfReceipt event (λ receipt. t ≡ released_in s entries.items receipt)
  Puts form s change.Retire event t = t ≡ record s { is_retired = true }

  -- ---- the parts of the code, of which contracts tell the replica that they are

  abbrev pub parts_seen : Parts K → State K
  parts_seen p = record {
    id = p.id;
    filter = p.filter;
    event_limit = p.event_limit;
    issued = p.issued;
    knowledge = p.knowledge;
    heads = p.contents.store.heads;
    push_outs = p.contents.store.push_outs;
    trail = p.contents.trail.lasts;
    feed = p.contents.feed.entries;
    push_out_feed = p.contents.push_out_feed.entries;
    log = p.contents.log;
    is_retired = p.is_retired;
    sessions = p.sessions;
    streams = p.streams;
  }

  -- they are this replica, and there is room for an event
  pub record HasBecome (p : Parts K) (s : State K) : Type 0 where
    pub is : parts_seen p ≡ s
    pub room : 0 < p.contents.log_room

  -- the change is made, and there is room for its event
  pub record IsPut (form : Form K) (p : Parts K) (made : Change K) (event : Event) (q : Parts K) : Type 0 where
    pub puts : Puts form (parts_seen p) made event (parts_seen q)
    pub room : 0 < q.contents.log_room

  pub record Enters (form : Form K) (p : Parts K) (arrival : Arrival) (q : Parts K) : Type 0 where
    pub known : AreSame (form.known q.knowledge) (learned form p.knowledge arrival.revision.item arrival.revision.version)
    pub has : HasBecome q (entered_in (parts_seen p) arrival q.knowledge)

  pub record Learns (form : Form K) (p : Parts K) (item version : Name) (told : Told) (sent : Sent) (q : Parts K) : Type 0 where
    pub known : AreSame (form.known q.knowledge) (learned_with form p.knowledge item version (vector_has (below_told sent.body)))
    pub has : HasBecome q (told_in (parts_seen p) item told sent q.knowledge)
