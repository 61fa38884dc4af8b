-- Next, whole.
use Rattle.std.proofs.Common.{◌≡◌, refl, sym, ap, subst, ◌∙◌, ℕ, ◌+◌, ◌<◌, List, [], ◌∷◌, filter, inl, inr, IsFalse, arith, if◌then◌else◌, Some, None}
use Rattle.mr_world.proofs.Names.Wire.{Body, Sent}
use Rattle.mr_world.proofs.Names.Replica.{Gave, GivesNext, State, logged}
use Rattle.mr_world.proofs.Names.Sessions.{Origin, Session, Stream, Table, header_of, is_end, open_at, with_changed, with_closed}
use Rattle.mr_world.proofs.Names.Model.{In, IsNext, Record, Versions, after_giving, at, in_session}
use Rattle.mr_world.proofs.Names.Laws.{Inv, at_elim, at_same, choice, in_filter}
use Rattle.mr_world.proofs.Names.Mails.{ClauseParts, Form}
use Rattle.mr_world.proofs.Names.World.{Agrees, Follows, HoldingsAgree, MailMoment, SessionsAgree, StreamAgrees, StreamsAgree, World, seen_record}
use Rattle.mr_world.proofs.Names.World.{setting_of}
use Rattle.mr_replica.specs.declared.event.Event.TheVariants as replica
use Rattle.mr_world.proofs.Groundwork.Tools.{at_other, same_place}
use Rattle.mr_world.proofs.Moving.ByParts.{with_replica}
use Rattle.mr_model.specs.declared.event.Act.TheVariants as act
use Rattle.mr_world.proofs.Drawing.Drawn.{Drawn, Source, drawn, next_allowed, record_of}
use Rattle.mr_world.proofs.Agreement.Staying.{session_given, stream_given, tables_hold}
use Rattle.mr_world.proofs.Drawing.NextKeeps.{hd_other, records_drawn, stream_drawn}
use Rattle.mr_world.proofs.Agreement.Parts.{IsAt}
use Rattle.mr_world.proofs.Moving.Refines.{Replies}
use Rattle.mr_world.proofs.Groundwork.Tables.{changed_found, closed_found}

-- the last record that was taken in a bound session
pub bound_top : (k : Session) (taken : List Record) → Follows k taken → (o : Origin) → k.origin ≡ Some o → (y : Record) × In y taken × (y.source ≡ o.source) × (y.stream ≡ o.stream) × (k.next ≡ y.index + 1)
bound_top k taken f o e = grind arith

module _ {K : Type 0} (form : Form K) (filters : ℕ → List ClauseParts) (w : World K) (m : MailMoment) (inv : Inv (setting_of filters) m) (a : Agrees form filters w m) where
  -- a record of the stream is drawn
  module _ (r number : ℕ) (k : Stream) (b : Body) (left : Stream) (found : open_at (w.replicas r).streams number ≡ Some k) (d : Drawn (w.replicas r) k b left) where
    abbrev x : Sent
    x = record_of r number k b

    -- the stream with what is left
    abbrev moved : Stream
    moved = record left { next = k.next + 1 }

    abbrev table : Table Stream
    table = if is_end b then with_closed (w.replicas r).streams number else with_changed number (λ _. moved) (w.replicas r).streams

    abbrev drawn_state : State K
    drawn_state = logged (record (w.replicas r) { streams = table }) (replica.Next number)

    abbrev held_then : ℕ → ℕ → Versions
    held_then = (after_giving m (seen_record x)).held_at_draw

    source : Source form filters m w.records r (w.replicas r).streams.opened number (w.replicas r) k
    source = record { list = inv.core.sets.list; holdings = a.holdings r; stream = (a.streams r).each number k found }

    sessions : (q : ℕ) → SessionsAgree (x ∷ w.records) (m.taken_in q) (w.replicas q).sessions
    sessions q = record { each = λ n c e. session_given x w.records (m.taken_in q) (w.replicas q).sessions.opened n c (other n c e) ((a.sessions q).each n c e); fresh = (a.sessions q).fresh }
      where
        other : (n : ℕ) (c : Session) → open_at (w.replicas q).sessions n ≡ Some c → (o : Origin) → c.origin ≡ Some o → ¬ IsAt o.source o.stream c.next x
        other n c found_session o e is_at = let t = bound_top c (filter (in_session n) (m.taken_in q)) ((a.sessions q).each n c found_session).follows o e in
            let lt = source.stream.below_next t.0 (record { is_given = (inv.core.streams.taken_given q t.0 (in_filter (in_session n) (m.taken_in q) t.0 t.1).0).0; source_is = t.2 ∙ sym is_at.source; stream_is = t.3 ∙ sym is_at.stream }) in
            let last = t.4 in let l : k.next < c.next = is_at.index in absurd (omega arith)

    old_stream : (q n : ℕ) (c : Stream) → ¬ ((r ≡ q) × (number ≡ n)) → open_at (w.replicas q).streams n ≡ Some c →
        StreamAgrees m.issues filters (x ∷ w.records) (seen_record x ∷ m.given) q (w.replicas q).streams.opened n (m.ask_of q n) (m.known_at_answer q n) (held_then q n) c
    old_stream q n c other e = stream_given x m.issues filters w.records m.given q (w.replicas q).streams.opened n (m.ask_of q n) (m.known_at_answer q n) (m.held_at_draw q n) (held_then q n) c other
        (hd_other m (seen_record x) q n other) ((a.streams q).each n c e)

    abbrev StreamsThen : ℕ → Table Stream → Type 0
    StreamsThen q streams = StreamsAgree m.issues filters (x ∷ w.records) (seen_record x ∷ m.given) q (m.ask_of q) (m.known_at_answer q) (held_then q) streams

    -- a stream that ended is closed
    closed : StreamsThen r (with_closed (w.replicas r).streams number)
    closed = record {
      each = λ n c e. (let old = closed_found (w.replicas r).streams number n c e in old_stream r n c (λ same. old.0 same.1) old.1);
      fresh = (a.streams r).fresh;
    }

    -- another one goes on
    goes_on : IsFalse (is_end b) → StreamsThen r (with_changed number (λ _. moved) (w.replicas r).streams)
    goes_on no_end = record {
      each = λ n c e. elim (changed_found (w.replicas r).streams number (λ _. moved) n c e) [
        | inl here ↦ subst (λ (t : ℕ). StreamAgrees m.issues filters (x ∷ w.records) (seen_record x ∷ m.given) r (w.replicas r).streams.opened t (m.ask_of r t) (m.known_at_answer r t) (held_then r t) c) here.0
            (subst (λ (z : Stream). StreamAgrees m.issues filters (x ∷ w.records) (seen_record x ∷ m.given) r (w.replicas r).streams.opened number (m.ask_of r number) (m.known_at_answer r number) (held_then r number) z) here.3
            (stream_drawn form filters m w.records r (w.replicas r).streams.opened number (w.replicas r) k source a.given b left d no_end))
        | inr there ↦ old_stream r n c (λ same. there.0 same.1) there.1
      ];
      fresh = (a.streams r).fresh;
    }

    streams : (q : ℕ) → StreamsThen q (at w.replicas r drawn_state q).streams
    streams q = elim (same_place q r) [
      | inl e ↦ subst (λ (z : ℕ). StreamsThen z (at w.replicas r drawn_state z).streams) (sym e)
          (subst (λ (st : State K). StreamsThen r st.streams) (sym (at_same w.replicas r drawn_state))
          (choice (StreamsThen r) (is_end b) (with_closed (w.replicas r).streams number) (with_changed number (λ _. moved) (w.replicas r).streams) (λ ended. closed) goes_on))
      | inr n ↦ subst (λ (st : State K). StreamsThen q st.streams) (sym (at_other w.replicas r drawn_state q n))
          (record { each = λ i c e. old_stream q i c (λ same. n (sym same.0)) e; fresh = (a.streams q).fresh })
    ]

    next_core : IsNext (setting_of filters) m r number (seen_record x) × Agrees form filters (record (with_replica w r drawn_state) { records = x ∷ w.records }) (after_giving m (seen_record x))
    next_core = (
      next_allowed form filters m w.records r (w.replicas r).streams.opened number (w.replicas r) k source b left d,
      record {
        asks = a.asks;
        vouched = a.vouched;
        receipts = a.receipts;
        ports = a.ports;
        given = ap (λ (xs : List Record). seen_record x ∷ xs) a.given;
        records = records_drawn form filters m w.records r (w.replicas r).streams.opened number (w.replicas r) k source a.given b left d a.records;
        holdings = λ q. at_elim (λ (z : ℕ) (st : State K). HoldingsAgree form m.issues filters z (m.holding z) (m.feed z) (m.is_retired z) st) w.replicas r drawn_state q
            (tables_hold form m.issues filters r (m.holding r) (m.feed r) (m.is_retired r) (w.replicas r) drawn_state.log drawn_state.sessions drawn_state.streams (a.holdings r)) (a.holdings q);
        sessions = λ q. at_elim (λ (z : ℕ) (st : State K). SessionsAgree (x ∷ w.records) (m.taken_in z) st.sessions) w.replicas r drawn_state q (sessions r) (sessions q);
        streams = streams;
      },
    )

  next_agrees : (r number : ℕ) (sent : Sent) (new : State K) → GivesNext (w.replicas r) number sent new →
      IsNext (setting_of filters) m r number (seen_record sent) × Agrees form filters (record (with_replica w r new) { records = sent ∷ w.records }) (after_giving m (seen_record sent))
  next_agrees r number sent new step =
      let in_table = step.1 in
      let k = in_table.0 in
      let gives = in_table.3 in
      let core = next_core r number k sent.body gives.0 in_table.2 (drawn (w.replicas r) k sent.body gives.0 gives.1) in
      let header : sent.header ≡ header_of r number k = gives.2 ∙ ap (λ (id : ℕ). header_of id number k) (a.holdings r).id in
      let is_sent : record_of r number k sent.body ≡ sent = (λ i. record { header = sym header i; body = sent.body }) in
      let table = in_table.4 ∙ ap (λ (z : Stream). if is_end sent.body then with_closed (w.replicas r).streams number else with_changed number (λ _. z) (w.replicas r).streams) gives.3 in
      let is_new = step.2 ∙ ap (λ (z : Table Stream). logged (record (w.replicas r) { streams = z }) (replica.Next number)) table in
      subst (λ (st : State K). IsNext (setting_of filters) m r number (seen_record sent) × Agrees form filters (record (with_replica w r st) { records = sent ∷ w.records }) (after_giving m (seen_record sent))) (sym is_new)
      (subst (λ (y : Sent). IsNext (setting_of filters) m r number (seen_record y) × Agrees form filters (record (with_replica w r (drawn_state r number k sent.body gives.0 in_table.2 (drawn (w.replicas r) k sent.body gives.0 gives.1))) { records = y ∷ w.records }) (after_giving m (seen_record y))) is_sent core)

  pub nexts : (r number : ℕ) → Replies form filters w m r (act.Next number) (replica.Next number)
  nexts r number (Gave sent) new none step = next_agrees r number sent new step
  nexts r number reply new none step = absurd step
