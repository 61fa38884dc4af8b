-- What an event and its answer change, and the moment after it.
use Rattle.std.specs.Prelude.{ℕ, Bool, true, false, ◌&&◌, not, if◌then◌else◌, List, [], ◌∷◌, ◌++◌, map, filter, Option, Some, None}
use Rattle.std.specs.List.{list_any}
use Rattle.mr_version.specs.Name.{Name}
use Rattle.mr_model.specs.Versions.{Versions, Issue, item_of, made_with, in_version_order}
use Rattle.mr_model.specs.History.{subscriber_number, Setting, Ask, Body, Body.Item, Body.MoveOut, Body.End, Record, Receipt, Entry, Entry.Added, Entry.Dropped, Reply, Reply.Issued, Reply.Done, Reply.Asked, Reply.Streaming, Reply.Gave, Reply.Took, Reply.Known, Reply.Finished, Reply.Offered, Reply.TookEntry, Reply.Vouched, Reply.Refused, Step, History}
use Rattle.mr_model.specs.declared.event.Act.{Act}
use Rattle.mr_model.specs.declared.event.Act.TheVariants.{Create, Edit, Retire, Pull, Receive, DeliverPart, CutIn, Answer, Next, CutOut, Offer, Take, Close, Vouch, Release}
use Rattle.mr_model.specs.Moment.{Holding, Mark, Mark.Moved, Mark.CloseMark, Moment, known, stored, pushed_out, start, at, at_two, ◌with◌, ◌without◌, only_if, only, numbered, selection, is_held, same_stream, completes}

-- how a replica answers a record that it takes
pub data Reception : Type 0 where
  AsTaken : Reception
  AsKnown : Reception
  AsFinished : Reception

-- what an event does to the sets; the replica comes first
pub data Change (M C : Type 0) : Type 0 where
  Issues : ℕ → Issue M → Change M C
  Asks : ℕ → Ask → Change M C
  Opens : (source stream : ℕ) → Ask → Change M C
  Gives : (source stream : ℕ) → Record → Change M C
  Takes : ℕ → Record → Reception → Change M C
  Retires : ℕ → Change M C
  Offers : ℕ → (subscriber : ℕ) → Entry C → Change M C
  Closes : ℕ → (subscriber : ℕ) → Change M C
  TakesEntry : ℕ → (subscriber : ℕ) → Entry C → Change M C
  Vouches : ℕ → Name → Receipt → Change M C
  Releases : ℕ → Receipt → Change M C
  -- a refusal, or a cut
  Stays : Change M C
  -- an answer that the event never has, or that it has only for what is in a pool
  Misfits : Change M C

-- ---- from events to changes

-- the item of the first base
abbrev pub item_of_bases : {M : Type 0} → List (Issue M) → List Name → Name → Name
item_of_bases issues [] v = v
item_of_bases issues (b ∷ bases) v = item_of issues b

-- the change that a frame of a pool makes, if it is there
abbrev pub change_if_found : {M C A : Type 0} → Option A → (A → Change M C) → Change M C
change_if_found None change = Misfits
change_if_found (Some x) change = change x

-- r takes the record of that number
abbrev pub taken_if_found : {M C : Type 0} → Moment M C → ℕ → ℕ → Reception → Change M C
taken_if_found m r n reception = change_if_found (numbered m.given n) (λ x. Takes r x reception)

-- a record is taken by a Receive or DeliverPart with one of three answers
abbrev pub change_by_reply : {M C : Type 0} → Moment M C → ℕ → ℕ → Reply C → Change M C
change_by_reply m r n Took = taken_if_found m r n AsTaken
change_by_reply m r n Known = taken_if_found m r n AsKnown
change_by_reply m r n Finished = taken_if_found m r n AsFinished
change_by_reply m r n Refused = Stays
change_by_reply m r n _ = Misfits

-- what a replica does by its act and the answer to that
abbrev pub change_of : {M C : Type 0} → Moment M C → ℕ → Act M → Reply C → Change M C
change_of m r (Create message) (Issued v) = Issues r (record { version = v; item = v; bases = []; message = message })
change_of m r (Edit bases message) (Issued v) = Issues r (record { version = v; item = item_of_bases m.issues bases v; bases = bases; message = message })
change_of m r Retire Done = Retires r
change_of m r Pull (Asked ask) = Asks r ask
change_of m r (Receive n) reply = change_by_reply m r n reply
change_of m r (DeliverPart n bytes) reply = change_by_reply m r n reply
change_of m r (CutIn n) Done = Stays
change_of m r (Answer n) (Streaming t) = change_if_found (numbered m.asks n) (Opens r t)
change_of m r (Next t) (Gave x) = Gives r t x
change_of m r (CutOut t) Done = Stays
change_of m r (Offer u) (Offered e) = Offers r (subscriber_number u) e
change_of m r (Close u) Done = Closes r (subscriber_number u)
change_of m r (Take u) (TookEntry e) = TakesEntry r (subscriber_number u) e
change_of m r (Vouch v) (Vouched x) = Vouches r v x
change_of m r (Release n) Done = change_if_found (numbered m.receipts n) (Releases r)
change_of m r _ Refused = Stays
change_of m r _ _ = Misfits

-- ---- the sets of a replica after a change

-- r issues x, which is in the issue list by now: it knows x, what x supersedes leaves, and x enters the store or joins the push-outs
abbrev pub holding_after_issue : {M C : Type 0} → Setting M C → Moment M C → ℕ → Issue M → Holding
holding_after_issue s m r x = let lower = made_with m.issues x.version in record {
  known = known m r with only x.version;
  stored = stored m r without lower with only_if (s.selects r x.message) x.version;
  pushed_out = pushed_out m r without lower with only_if (not (s.selects r x.message)) x.version;
}

-- r takes w: it knows w and all that w supersedes. If w was not known, what it supersedes leaves, and w enters the store where the test says so
abbrev pub holding_after_version : {M C : Type 0} → Moment M C → ℕ → Name → (enters : Bool) → Holding
holding_after_version m r w enters = let lower = made_with m.issues w in
    let learned = known m r with only w with lower in
    if known m r w then record { known = learned; stored = stored m r; pushed_out = pushed_out m r }
    else record { known = learned; stored = stored m r without lower with only_if enters w; pushed_out = pushed_out m r without lower }

-- r takes the End x of a complete full session: it knows what the source knew at Answer; and what of that the source did not store when its first Held record was drawn leaves the store
abbrev pub holding_after_end : {M C : Type 0} → Moment M C → ℕ → Record → Holding
holding_after_end m r x = let learned = m.known_at_answer x.source x.stream in record {
  known = known m r with learned;
  stored = stored m r without (learned without m.held_at_draw x.source x.stream);
  pushed_out = pushed_out m r;
}

-- r takes x
abbrev pub holding_after_record : {M C : Type 0} → Setting M C → Moment M C → ℕ → Record → Body → Holding
holding_after_record s m r x (Item w) = holding_after_version m r w (selection s m.issues r w)
holding_after_record s m r x (MoveOut w) = holding_after_version m r w false
holding_after_record s m r x End = if completes m r x then holding_after_end m r x else m.holding r
holding_after_record s m r x _ = m.holding r

-- r releases w: it and what it supersedes leave the push-outs
abbrev pub holding_after_release : {M C : Type 0} → Moment M C → ℕ → Name → Holding
holding_after_release m r w = record {
  known = known m r;
  stored = stored m r;
  pushed_out = pushed_out m r without (only w with made_with m.issues w);
}

-- ---- the moment after a change

-- x enters a store
abbrev pub added_entry : {M C : Type 0} → Setting M C → Issue M → Entry C
added_entry s x = Added x.item x.version (s.card x.message)

-- x leaves a store
abbrev pub dropped_entry : {M C : Type 0} → Issue M → Entry C
dropped_entry x = Dropped x.item x.version

-- the feed after the store became new: what left it, in version order, then what entered it
abbrev pub feed_after : {M C : Type 0} → Setting M C → List (Issue M) → (old new : Versions) → List (Entry C) → List (Entry C)
feed_after s issues old new feed = feed
    ++ map dropped_entry (filter (λ x. (old without new) x.version) (in_version_order issues))
    ++ map (added_entry s) (filter (λ x. (new without old) x.version) (in_version_order issues))

-- the sets of r become h, and its feed tells what left its store and what entered it
abbrev pub with_holding : {M C : Type 0} → Setting M C → Moment M C → ℕ → Holding → Moment M C
with_holding s m r h = record m { holding = at m.holding r h; feed = at m.feed r (feed_after s m.issues (stored m r) h.stored (m.feed r)) }

-- x is issued: first it comes into the issue list, then its author's sets change
abbrev pub with_issue : {M C : Type 0} → Moment M C → Issue M → Moment M C
with_issue m x = record m { issues = x ∷ m.issues }

-- r issues x
abbrev pub after_issue : {M C : Type 0} → Setting M C → Moment M C → ℕ → Issue M → Moment M C
after_issue s m r x = with_holding s (with_issue m x) r (holding_after_issue s (with_issue m x) r x)

-- k opens stream t: what it knows now is what the stream will teach
abbrev pub after_opening : {M C : Type 0} → Moment M C → (source stream : ℕ) → Ask → Moment M C
after_opening m k t ask = record m { ask_of = at_two m.ask_of k t (Some ask); known_at_answer = at_two m.known_at_answer k t (known m k) }

-- x is the first Held record of its stream
abbrev pub is_first_held : List Record → Record → Bool
is_first_held given x = is_held x.body && not (list_any (λ y. same_stream y x && is_held y.body) given)

-- x is given: at the first Held record of a stream, what its source stores now is what the Held records show
abbrev pub after_giving : {M C : Type 0} → Moment M C → Record → Moment M C
after_giving m x = record m {
  given = x ∷ m.given;
  held_at_draw = if is_first_held m.given x then at_two m.held_at_draw x.source x.stream (stored m x.source) else m.held_at_draw;
}

-- r takes x, and x comes to what it took
abbrev pub after_taking : {M C : Type 0} → Setting M C → Moment M C → ℕ → Record → Moment M C
after_taking s m r x = record (with_holding s m r (holding_after_record s m r x x.body)) { taken_in = at m.taken_in r (x ∷ m.taken_in r) }

-- ---- what subscribers get

-- the entries among the marks
abbrev pub entries_of : {C : Type 0} → List (Mark C) → List (Entry C)
entries_of [] = []
entries_of (Moved e ∷ marks) = e ∷ entries_of marks
entries_of (CloseMark ∷ marks) = entries_of marks

-- whether the close mark is there
abbrev pub is_closed : {C : Type 0} → List (Mark C) → Bool
is_closed [] = false
is_closed (Moved e ∷ marks) = is_closed marks
is_closed (CloseMark ∷ marks) = true

-- one more mark for a subscriber
abbrev pub with_mark : {M C : Type 0} → Moment M C → ℕ → ℕ → Mark C → Moment M C
with_mark m r u mark = record m { offered = at_two m.offered r u (m.offered r u ++ mark ∷ []) }

-- ---- one change

-- the moment after the change
abbrev pub happens : {M C : Type 0} → Setting M C → Moment M C → Change M C → Moment M C
happens s m (Issues r x) = after_issue s m r x
happens s m (Asks r ask) = record m { asks = ask ∷ m.asks }
happens s m (Opens k t ask) = after_opening m k t ask
happens s m (Gives k t x) = after_giving m x
happens s m (Takes r x reception) = after_taking s m r x
happens s m (Retires r) = record m { is_retired = at m.is_retired r true }
happens s m (Offers r u e) = with_mark m r u (Moved e)
happens s m (Closes r u) = if is_closed (m.offered r u) then m else with_mark m r u CloseMark
happens s m (TakesEntry r u e) = record m { taken = at_two m.taken r u (m.taken r u ++ e ∷ []) }
happens s m (Vouches r v x) = record m { receipts = x ∷ m.receipts }
happens s m (Releases r x) = with_holding s m r (holding_after_release m r x.version)
happens s m Stays = m
happens s m Misfits = m

-- ---- the moment after a history

-- the change that this event with its answer makes at the moment
abbrev pub change : {M C : Type 0} → Moment M C → Step M C → Change M C
change m x = change_of m x.event.replica x.event.act x.reply

-- the moment after a history that begins at m
abbrev pub after : {M C : Type 0} → Setting M C → Moment M C → History M C → Moment M C
after s m [] = m
after s m (x ∷ later) = after s (happens s m (change m x)) later

-- the moment after a whole history
abbrev pub now : {M C : Type 0} → Setting M C → History M C → Moment M C
now s h = after s start h
