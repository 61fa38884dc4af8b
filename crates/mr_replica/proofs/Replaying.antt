-- A replica is its log replayed.
use Rattle.std.proofs.Common.{◌≡◌, ◌+◌, ℕ, false, List, [], ◌∷◌, ◌++◌, length, Result, Ok, Err, IfOk, IfErr, refl, sym, ap, subst, ◌∙◌, arith, append_assoc, append-nil, length-append}
use Rattle.mr_replica.proofs.Names.{Admits, AdmitsAll, AreAlike, AreSame, Changes, ClauseParts, Event, FeedGrows, Form, IsByMeaning, IsForMemory, IsFresh}
use Rattle.mr_replica.proofs.Names.{IsItsLog, IsOfSameSetting, IsReplayFault, PushOutFeedGrows, Refusal, Replays, Reply, State, Steps, StopsAt, new_state}
use Rattle.mr_replica.specs.Growing.{admitted}
use Rattle.mr_replica.specs.inner.Replay.{IsStop}
use Rattle.mr_replica.specs.declared.replica.replay.ReplayFault.{ReplayFault}
use Rattle.mr_replica.specs.declared.replica.replay.ReplayFault.TheVariants.{BadLimit, Refused}
use Rattle.mr_replica.proofs.Alike.{alike_all, alike_stop, alike_fresh}
use Rattle.mr_replica.proofs.FiveKinds.{change_made, kind_leaves}
use Rattle.mr_replica.proofs.Replies.{step_changes, step_refused}

-- what an admitted event leaves, notes and tells
record Logs {K : Type 0} (s : State K) (event : Event) (new : State K) : Type 0 where
  id : new.id ≡ s.id
  filter : new.filter ≡ s.filter
  event_limit : new.event_limit ≡ s.event_limit
  log : new.log ≡ s.log ++ event ∷ []
  feed : FeedGrows s new
  push_out_feed : PushOutFeedGrows s new

module _ {K : Type 0} (form : Form K) where
  -- ---- an admitted event is noted, and id, filter and limit stay

  change_logs : (s : State K) (event : Event) (told : Reply) (new : State K) → Changes form s event told new → Logs s event new
  change_logs s event told new h =
      let made = change_made form s event told new h in
      let leaves = kind_leaves form s event made.to made.kind in
      record {
        id = ap (λ (z : State K). z.id) made.is ∙ leaves.id;
        filter = ap (λ (z : State K). z.filter) made.is ∙ leaves.filter;
        event_limit = ap (λ (z : State K). z.event_limit) made.is ∙ leaves.event_limit;
        log = ap (λ (z : State K). z.log) made.is ∙ ap (λ (log : List Event). log ++ event ∷ []) leaves.log;
        feed = (leaves.feed.0, ap (λ (z : State K). z.feed) made.is ∙ leaves.feed.1);
        push_out_feed = (leaves.push_out_feed.0, ap (λ (z : State K). z.push_out_feed) made.is ∙ leaves.push_out_feed.1);
      }

  admits_log : (s : State K) (event : Event) (new : State K) → Admits form s event new → Logs s event new
  admits_log s event new h = change_logs s event h.0 new (step_changes form s event h.0 new h.1)

  -- a refused event changes nothing
  pub refused_same : (s : State K) (event : Event) (e : Refusal) (new : State K) → Steps form s event (Err e) new → new ≡ s
  refused_same s event e new h = step_refused form s event e new h

  -- ---- what a step adds

  pub step_feed : (s new : State K) (event : Event) (answer : Result Reply Refusal) → Steps form s event answer new → FeedGrows s new
  step_feed s new event (Ok told) h = (admits_log s event new (told, h)).feed
  step_feed s new event (Err e) h = ([], ap (λ (z : State K). z.feed) (step_refused form s event e new h) ∙ sym (append-nil s.feed))

  pub step_push_out_feed : (s new : State K) (event : Event) (answer : Result Reply Refusal) → Steps form s event answer new → PushOutFeedGrows s new
  step_push_out_feed s new event (Ok told) h = (admits_log s event new (told, h)).push_out_feed
  step_push_out_feed s new event (Err e) h = ([], ap (λ (z : State K). z.push_out_feed) (step_refused form s event e new h) ∙ sym (append-nil s.push_out_feed))

  pub step_log : (s new : State K) (event : Event) (answer : Result Reply Refusal) → Steps form s event answer new → new.log ≡ s.log ++ admitted event answer
  step_log s new event answer h = grind (arith, admits_log, step_refused, append-nil)

  pub step_setting : (s new : State K) (event : Event) (answer : Result Reply Refusal) → Steps form s event answer new → IsOfSameSetting s new
  step_setting s new event answer h = grind (arith, admits_log, step_refused)

  -- ---- lists of events

  -- one event more
  admits_more : (s mid new : State K) (events : List Event) (event : Event) → AdmitsAll form s events mid → Admits form mid event new → AdmitsAll form s (events ++ event ∷ []) new
  admits_more s mid new [] event h more = (new, subst (λ (z : State K). Admits form z event new) h more, refl)
  admits_more s mid new (e ∷ events) event h more = (h.0, h.1, admits_more h.0 mid new events event h.2 more)

  -- what all these events leave, and note
  all_log : (s new : State K) (events : List Event) → AdmitsAll form s events new → (new.id ≡ s.id) × (new.filter ≡ s.filter) × (new.event_limit ≡ s.event_limit) × (new.log ≡ s.log ++ events)
  all_log s new [] h = (ap (λ (z : State K). z.id) h, ap (λ (z : State K). z.filter) h, ap (λ (z : State K). z.event_limit) h, ap (λ (z : State K). z.log) h ∙ sym (append-nil s.log))
  all_log s new (event ∷ events) h = grind (arith, all_log h.0 new events h.2, admits_log, append_assoc)

  -- a replay of these is one of those
  pub replays_as : (id jd : ℕ) (filter gilter : List ClauseParts) (limit mimit : ℕ) (events fvents : List Event) (s : State K) → jd ≡ id → gilter ≡ filter → mimit ≡ limit → fvents ≡ events
      → Replays form id filter limit events s → Replays form jd gilter mimit fvents s
  replays_as id jd filter gilter limit mimit events fvents s id_is filter_is limit_is events_are h = rw (id_is, filter_is, limit_is, events_are) h

  -- what is its log replayed stays so
  step_keeps : (s : State K) (event : Event) (answer : Result Reply Refusal) (new : State K) → Steps form s event answer new → IsItsLog form s → IsItsLog form new
  step_keeps s event (Err e) new h is = subst (λ (z : State K). IsItsLog form z) (sym (step_refused form s event e new h)) is
  step_keeps s event (Ok told) new h is =
      let logs = admits_log s event new (told, h) in
      replays_as s.id new.id s.filter new.filter s.event_limit new.event_limit (s.log ++ event ∷ []) new.log new logs.id logs.filter logs.event_limit logs.log
      (record { fresh = is.fresh; is_fresh = is.is_fresh; admits = admits_more is.fresh s new s.log event is.admits (told, h) })

  -- a fresh replica is its log, of no events
  pub fresh_is_its_log : (s : State K) (id : ℕ) (filter : List ClauseParts) (event_limit : ℕ) → s ≡ new_state id filter event_limit s.knowledge → AreSame (form.known s.knowledge) (λ _ _. false) → IsItsLog form s
  fresh_is_its_log s id filter event_limit empty nothing =
      replays_as id s.id filter s.filter event_limit s.event_limit [] s.log s (ap (λ (z : State K). z.id) empty) (ap (λ (z : State K). z.filter) empty) (ap (λ (z : State K). z.event_limit) empty) (ap (λ (z : State K). z.log) empty)
      (record { fresh = s; is_fresh = record { is_empty = empty; knows_nothing = nothing }; admits = refl })

  pub kept : (s new : State K) (event : Event) (answer : Result Reply Refusal) → IsItsLog form s → Steps form s event answer new → IsItsLog form new
  kept s new event answer is h = step_keeps s event answer new h is

  -- ---- the loop

  -- the events so far were admitted
  pub record EventsSoFar (s : State K) (all yielded left : List Event) (place : ℕ) (now : State K) : Type 0 where
    pub whole : all ≡ yielded ++ left
    pub count : place ≡ length yielded
    pub admits : AdmitsAll form s yielded now

  pub events_begin : (s : State K) (all left : List Event) → left ≡ all → EventsSoFar s all [] left 0 s
  events_begin s all left e = record { whole = sym e; count = refl; admits = refl }

  pub event_admitted : (s now new : State K) (all yielded left next : List Event) (place : ℕ) (event : Event)
      → EventsSoFar s all yielded left place now → left ≡ event ∷ next → Admits form now event new → EventsSoFar s all (yielded ++ event ∷ []) next (place + 1) new
  event_admitted s now new all yielded left next place event so taken h = grind (arith, append_assoc, length-append, admits_more)

  pub events_end : (s : State K) (all yielded left : List Event) (place : ℕ) (now : State K) → EventsSoFar s all yielded left place now → left ≡ [] → AdmitsAll form s all now
  events_end s all yielded left place now so none = rw (so.whole, none, append-nil yielded) so.admits

  pub event_refused : (s now new : State K) (all yielded left next : List Event) (place : ℕ) (event : Event) (e : Refusal)
      → EventsSoFar s all yielded left place now → left ≡ event ∷ next → Steps form now event (Err e) new → StopsAt form s all place e
  event_refused s now new all yielded left next place event e so taken h = record {
    before = yielded;
    event = event;
    left = next;
    all = so.whole ∙ ap (λ rest. yielded ++ rest) taken;
    is_place = sym so.count;
    reached = now;
    admits = so.admits;
    refuses = subst (λ (z : State K). Steps form now event (Err e) z) (step_refused form now event e new h) h;
  }

  -- ---- the whole replay

  module _ (id : ℕ) (filter : List ClauseParts) (event_limit : ℕ) (fresh : State K) (is_fresh : IsFresh form id filter event_limit fresh) (events : List Event) where
    pub replay_replays : (result : Result (State K) ReplayFault) → IfOk result (AdmitsAll form fresh events) → IfOk result (Replays form id filter event_limit events)
    replay_replays (Ok s) h = record { fresh = fresh; is_fresh = is_fresh; admits = h }
    replay_replays (Err f) h = tt

    pub replay_refuses : (result : Result (State K) ReplayFault) → IfErr result (IsStop form fresh events) → IfErr result (IsReplayFault form id filter event_limit events)
    replay_refuses (Ok s) h = tt
    replay_refuses (Err BadLimit) h = tt
    replay_refuses (Err (Refused place e)) h = record { fresh = fresh; is_fresh = is_fresh; stops = h }

    pub replay_logs : (result : Result (State K) ReplayFault) → IfOk result (AdmitsAll form fresh events) → IfOk result (λ s. s.log ≡ events)
    replay_logs result h = grind (arith, all_log)

    pub replay_is_its_log : (result : Result (State K) ReplayFault) → IfOk result (AdmitsAll form fresh events) → IfOk result (IsItsLog form)
    replay_is_its_log (Ok s) h =
        let all = all_log fresh s events h in
        let empty = is_fresh.is_empty in
        replays_as id s.id filter s.filter event_limit s.event_limit events s.log s (all.0 ∙ ap (λ (z : State K). z.id) empty) (all.1 ∙ ap (λ (z : State K). z.filter) empty) (all.2 ∙ ap (λ (z : State K). z.event_limit) empty)
        (all.3 ∙ ap (λ (z : State K). z.log ++ events) empty) (record { fresh = fresh; is_fresh = is_fresh; admits = h })
    replay_is_its_log (Err f) h = tt

    pub replay_same : (result : Result (State K) ReplayFault) → IfOk result (AdmitsAll form fresh events) → IsByMeaning form → (s : State K) → Replays form id filter event_limit events s → IfOk result (AreAlike form s)
    replay_same (Ok r) h told s whole = alike_all form told whole.fresh fresh events s r (alike_fresh form told id filter event_limit whole.fresh fresh whole.is_fresh is_fresh) whole.admits h
    replay_same (Err f) h told s whole = tt

    pub replay_for_memory : (result : Result (State K) ReplayFault) → IfErr result (IsStop form fresh events) → IsByMeaning form → (s : State K) → Replays form id filter event_limit events s → IfErr result IsForMemory
    replay_for_memory (Ok r) h told s whole = tt
    replay_for_memory (Err BadLimit) h told s whole = tt
    replay_for_memory (Err (Refused place e)) h told s whole =
        alike_stop form told whole.fresh fresh s h.reached h.before h.left h.event e (alike_fresh form told id filter event_limit whole.fresh fresh whole.is_fresh is_fresh)
        (subst (λ (all : List Event). AdmitsAll form whole.fresh all s) h.all whole.admits) h.admits h.refuses
