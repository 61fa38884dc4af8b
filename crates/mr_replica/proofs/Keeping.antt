-- what a replica keeps as it admits an event
use Rattle.std.proofs.Common.{◌≡◌, ◌≤◌, ◌<◌, ◌+◌, ◌^◌, ◌==◌, ℕ, Bool, true, false, not, cond, if◌then◌else◌, arith, refl, sym, ap, ◌∙◌, List, [], ◌∷◌, ◌++◌, length, filter, Option, Some, None, IfSome, is_some}
use Rattle.mr_replica.proofs.Names.{All, All-append, All-cons, All-filter, All-head, All-map, All-push, All-tail, All-weaker, AreHeld, AreSame, AreWithin}
use Rattle.mr_replica.proofs.Names.{Entry, Event, Form, IsKept, IsNext, IsSound, Name, NoStream, Numbered, Onward, Pairs, Receipt, Rev, Session, State}
use Rattle.mr_replica.proofs.Names.{Stream, Table, advanced, after_given, arrival_alone, arrived, changed, entered_if, gone_on, has_below, if_so, inserted}
use Rattle.mr_replica.proofs.Names.{is_before, is_last, is_misfiled, is_selected, issuing, item_of_last, learned, learned_itself, learned_keeps, length_push}
use Rattle.mr_replica.proofs.Names.{logged, name_eq, next_refusal, next_version, not-false, open_at, option_map_or, refused_if, releasing, revision_of}
use Rattle.mr_replica.proofs.Names.{revision_of-neither, same_names, supersedes, told_more, version_learned, version_of, vouched, with_changed, with_closed}
use Rattle.mr_replica.proofs.Names.{with_opened, without}
use Rattle.mr_replica.specs.State.{held}
use Rattle.mr_replica.proofs.Choice.{at_has, each_some, found_has, not_some, short_log}
use Rattle.mr_replica.proofs.Folding.{folds_on, in_order_on}

-- ---- tables

module _ {T : Type 0} (next : T → ℕ) (log : List Event) (event : Event) (table : Table T) (h : AreWithin next (length log) table) where
  abbrev WasFew : Numbered T → Type 0
  WasFew x = next x.value ≤ length log

  abbrev IsFew : Numbered T → Type 0
  IsFew x = next x.value ≤ length (log ++ event ∷ [])

  later : (x : Numbered T) → next x.value ≤ length log → next x.value ≤ length (log ++ event ∷ [])
  later x few = omega (arith, few, length_push log event)

  -- what is within a log is within a longer one
  pub within_later : AreWithin next (length (log ++ event ∷ [])) table
  within_later = record { opened = omega (arith, h.opened, length_push log event); next_few = All-weaker WasFew IsFew later table.open_ones h.next_few }

  -- and so is what is left once one was closed
  pub within_closed : (number : ℕ) → AreWithin next (length (log ++ event ∷ [])) (with_closed table number)
  within_closed number = record { opened = within_later.opened; next_few = All-filter (λ (x : Numbered T). not (x.number == number)) IsFew table.open_ones within_later.next_few }

  -- or once one was opened that has come nowhere yet
  pub within_opened : (value : T) → next value ≡ 0 → AreWithin next (length (log ++ event ∷ [])) (with_opened table value)
  within_opened value begun = record {
    opened = omega (arith, h.opened, length_push log event);
    next_few = All-push IsFew table.open_ones (record { number = table.opened + 1; value = value }) within_later.next_few (omega (arith, begun));
  }

  -- or once one has come no further than that
  pub within_changed : (number : ℕ) (on : T → T) → ((value : T) → next (on value) ≤ length (log ++ event ∷ [])) → AreWithin next (length (log ++ event ∷ [])) (with_changed number on table)
  within_changed number on few = record {
    opened = within_later.opened;
    next_few = All-map IsFew (changed number on) table.open_ones (All-weaker WasFew (λ x. IsFew (changed number on x)) (λ x was. by_number x was (x.number == number)) table.open_ones h.next_few);
  }
    where
      by_number : (x : Numbered T) → WasFew x → (b : Bool) → IsFew (if b then (record { number = number; value = on x.value }) else x)
      by_number x was true = few x.value
      by_number x was false = later x was

-- ---- revisions

-- what holds of all and of one more holds with that one at its place
All-inserted : {X : Type 0} (name : X → Name) (P : X → Type 0) (r : X) (xs : List X) → P r → All P xs → All P (inserted name r xs)
All-inserted name P r [] p h = All-cons P r [] p h
All-inserted name P r (x ∷ xs) p h =
    elim (is_before (name x) (name r)) as (λ b. All P (cond b (x ∷ inserted name r xs) (r ∷ x ∷ xs))) [
      | true ↦ All-cons P x (inserted name r xs) (All-head P x xs h) (All-inserted name P r xs p (All-tail P x xs h))
      | false ↦ All-cons P r (x ∷ xs) p h
    ]

All-arrived : (P : Rev → Type 0) (comer : Option Rev) (rs : List Rev) → IfSome comer P → All P rs → All P (arrived comer rs)
All-arrived P None rs p h = h
All-arrived P (Some r) rs p h = All-inserted version_of P r rs p h

module _ {was now : Pairs} {id count later : ℕ} (still : (r : Rev) → IsKept was id count r → IsKept now id later r) where
  -- some leave, and one may come that has no version of theirs
  pub held_on : (p : Rev → Bool) (comer : Option Rev) (rs : List Rev) (feed : List Entry) → IfSome comer (IsKept now id later) → IfSome comer (λ r. revision_of rs r.version ≡ None) → AreHeld was id count rs feed
      → AreHeld now id later (arrived comer (filter (λ r. not (p r)) rs)) (told_more feed (filter p rs) (arrival_alone comer))
  held_on p comer rs feed kept new h =
      let stays : Rev → Bool = λ r. not (p r) in
      record {
        in_order = in_order_on p comer rs h.in_order new;
        each = All-arrived (IsKept now id later) comer (filter stays rs) kept (All-filter stays (IsKept now id later) rs (All-weaker (IsKept was id count) (IsKept now id later) still rs h.each));
        fold = folds_on p comer feed rs h.in_order new h.fold;
      }

  -- the same of one that comes if so
  held_if : (p : Rev → Bool) (b : Bool) (r : Rev) (rs : List Rev) (feed : List Entry) → IsKept now id later r → revision_of rs r.version ≡ None → AreHeld was id count rs feed
      → AreHeld now id later (entered_if b r (filter (λ r. not (p r)) rs)) (told_more feed (filter p rs) (if_so b r))
  held_if p true r rs feed kept new h = held_on p (Some r) rs feed kept new h
  held_if p false r rs feed kept new h = held_on p None rs feed tt tt h

-- ---- a replica

module _ {K : Type 0} (form : Form K) (s : State K) (sound : IsSound form s) where
  -- a held revision is kept, and of its version
  pub held_kept : (v : Name) (r : Rev) → held s v ≡ Some r → IsKept (form.known s.knowledge) s.id s.issued r × (r.version ≡ v)
  held_kept v r is =
      let Kept : Rev → Type 0 = IsKept (form.known s.knowledge) s.id s.issued in
      let found = found_has Kept (λ r. name_eq r.version v) (s.heads ++ s.push_outs) r (All-append Kept s.heads s.push_outs sound.heads.each sound.push_outs.each) is in
      (found.0, same_names r.version v found.1)

  -- the next own version is not held yet
  pub next_not_held : (v : Name) → v ≡ next_version s → held s v ≡ None
  next_not_held v next =
      not_some (held s v) (λ r is.
      let h = held_kept v r is in
      let low : r.version.counter ≤ s.issued = h.0.no_later.itself (ap (λ (n : Name). n.author) (h.1 ∙ next)) in
      let high : r.version.counter ≡ s.issued + 1 = ap (λ (n : Name). n.counter) (h.1 ∙ next) in
      omega (arith, low, high))

  -- nor is an unknown version that is not held for another item
  pub not_held_yet : (item version : Name) → form.known s.knowledge item version ≡ false → is_misfiled s item version ≡ false → held s version ≡ None
  not_held_yet item version unknown filed =
      not_some (held s version) (λ r is.
      let h = held_kept version r is in
      let of_item : not (name_eq r.item item) ≡ false = sym (ap (λ (o : Option Rev). option_map_or (λ r. not (name_eq r.item item)) o false) is) ∙ filed in
      let item_is : r.item ≡ item = same_names r.item item (not-false (name_eq r.item item) of_item) in
      cc (sym h.0.known ∙ ap (λ (i : Name). form.known s.knowledge i r.version) item_is ∙ ap (λ (v : Name). form.known s.knowledge item v) h.1 ∙ unknown))

  -- a stream that may give its next record has an index for it
  pub goes_on : (number : ℕ) → next_refusal s number ≡ None → IfSome (open_at s.streams number) (λ stream. stream.next + 1 < 2 ^ 32)
  goes_on number none =
      each_some (open_at s.streams number) (λ stream is.
      let few : stream.next ≤ length s.log = at_has (λ (stream : Stream). stream.next ≤ length s.log) number stream s.streams.open_ones sound.streams.next_few is in
      omega (arith, few, short_log s (refused_if (not (is_some (open_at s.streams number))) NoStream) none, sound.limit_to))

  module _ (event : Event) where
    abbrev Within : {T : Type 0} → (T → ℕ) → Table T → Type 0
    Within next table = AreWithin next (length (s.log ++ event ∷ [])) table

    pub sessions_later : Within (λ (session : Session). session.next) s.sessions
    sessions_later = within_later (λ session. session.next) s.log event s.sessions sound.sessions

    pub streams_later : Within (λ (stream : Stream). stream.next) s.streams
    streams_later = within_later (λ stream. stream.next) s.log event s.streams sound.streams

    -- what it has become by the event
    pub sound_on : (t : State K) → t.issued ≤ s.issued + 1 → AreHeld (form.known t.knowledge) s.id t.issued t.heads t.feed → AreHeld (form.known t.knowledge) s.id t.issued t.push_outs t.push_out_feed
        → All (IsKept (form.known t.knowledge) s.id t.issued) t.trail → Within (λ (session : Session). session.next) t.sessions → Within (λ (stream : Stream). stream.next) t.streams
        → IsSound form (logged (record t { id = s.id; event_limit = s.event_limit; log = s.log }) event)
    sound_on t few heads push_outs trail sessions streams = record {
      limit_from = sound.limit_from;
      limit_to = sound.limit_to;
      issued_few = omega (arith, few, sound.issued_few, length_push s.log event);
      heads = heads;
      push_outs = push_outs;
      trail = trail;
      sessions = sessions;
      streams = streams;
    }

    -- an event changes sessions or streams alone, or whether it has retired
    pub sound_turned : (retired : Bool) (sessions : Table Session) (streams : Table Stream) → Within (λ (session : Session). session.next) sessions → Within (λ (stream : Stream). stream.next) streams
        → IsSound form (logged (record s { is_retired = retired; sessions = sessions; streams = streams }) event)
    sound_turned retired sessions streams in_sessions in_streams =
        sound_on (record s { is_retired = retired; sessions = sessions; streams = streams }) (omega arith) sound.heads sound.push_outs sound.trail in_sessions in_streams

    pub sound_sessions : (sessions : Table Session) → Within (λ (session : Session). session.next) sessions → IsSound form (logged (record s { sessions = sessions }) event)
    sound_sessions sessions within = sound_turned s.is_retired sessions s.streams within streams_later

    pub sound_streams : (streams : Table Stream) → Within (λ (stream : Stream). stream.next) streams → IsSound form (logged (record s { streams = streams }) event)
    sound_streams streams within = sound_turned s.is_retired s.sessions streams sessions_later within

    -- a stream goes on
    pub sound_advanced : (number : ℕ) (way : Onward) → IsSound form (logged (record s { streams = advanced number way s.streams }) event)
    sound_advanced number way = by_stream (open_at s.streams number) refl
      where
        by_end : (stream : Stream) (ends : Bool) → stream.next ≤ length s.log → Within (λ (stream : Stream). stream.next) (if ends then with_closed s.streams number else with_changed number (λ _. after_given way stream) s.streams)
        by_end stream true few = within_closed (λ stream. stream.next) s.log event s.streams sound.streams number
        by_end stream false few = within_changed (λ stream. stream.next) s.log event s.streams sound.streams number (λ _. after_given way stream) (λ _. omega (arith, few, length_push s.log event))

        by_stream : (stream : Option Stream) → open_at s.streams number ≡ stream → IsSound form (logged (record s { streams = gone_on stream number way s.streams }) event)
        by_stream None is = sound_streams s.streams streams_later
        by_stream (Some stream) is =
            sound_streams (gone_on (Some stream) number way s.streams)
            (by_end stream (is_last way) (at_has (λ (stream : Stream). stream.next ≤ length s.log) number stream s.streams.open_ones sound.streams.next_few is))

    pub sound_released : (receipt : Receipt) → IsSound form (logged (releasing s receipt) event)
    sound_released receipt =
        let gone = supersedes receipt.descent.item (vouched receipt.descent) in
        sound_on (releasing s receipt) (omega arith) sound.heads (held_on (λ r kept. kept) gone None s.push_outs s.push_out_feed tt tt sound.push_outs) sound.trail sessions_later streams_later

    -- ---- it issues a revision

    module _ (k : K) (r : Rev) (next : IsNext s r) (known : AreSame (form.known k) (version_learned form s r.item)) where
      -- what was kept is kept still, and the new revision too
      still : (q : Rev) → IsKept (form.known s.knowledge) s.id s.issued q → IsKept (form.known k) s.id (s.issued + 1) q
      still q kept = record {
        is = kept.is;
        no_later = record { itself = λ own. omega (arith, kept.no_later.itself own); all_below = λ v in' own. omega (arith, kept.no_later.all_below v in' own) };
        known = known q.item q.version ∙ learned_keeps form s.knowledge r.item (next_version s) q.item q.version kept.known;
      }

      new_kept : IsKept (form.known k) s.id (s.issued + 1) r
      new_kept = record {
        is = next.is;
        no_later = record { itself = λ _. rw next.version (omega arith); all_below = λ v in' own. omega (arith, next.no_later v in' own) };
        known = known r.item r.version ∙ ap (learned form s.knowledge r.item (next_version s) r.item) next.version ∙ learned_itself form s.knowledge r.item (next_version s);
      }

      pub sound_issued : IsSound form (logged (issuing s k r) event)
      sound_issued =
          let Kept : Rev → Type 0 = IsKept (form.known k) s.id (s.issued + 1) in
          let gone = supersedes r.item (has_below r) in
          let new = revision_of-neither s.heads s.push_outs r.version (next_not_held r.version next.version) in
          let others = All-filter (λ (l : Rev). not (name_eq l.item r.item)) Kept s.trail (All-weaker (IsKept (form.known s.knowledge) s.id s.issued) Kept still s.trail sound.trail) in
          sound_on (issuing s k r) (omega arith) (held_if still gone (is_selected s r) r s.heads s.feed new_kept new.first sound.heads)
          (held_if still gone (not (is_selected s r)) r s.push_outs s.push_out_feed new_kept new.second sound.push_outs) (All-inserted item_of_last Kept r (without item_of_last r.item s.trail) new_kept others) sessions_later streams_later
